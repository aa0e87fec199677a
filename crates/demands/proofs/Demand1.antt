-- Demand 1 holds. Assumes nothing.
use mathlib.Core.Path.{◌≡◌, refl, sym, ap, ◌∙◌}
use mathlib.Core.List.{List, ◌++◌}
use Prim.Native.Nat.{ℕ, ◌+◌, ◌≤◌}
use native.Mathlib.Omega.{arith}
use lib.ListN.{length, take, drop, length-take, length-drop}
use Rattle.std.specs.declared.option.Option.{Option}
use Rattle.std.specs.declared.option.Option.TheVariants.{Some, None}
use Rattle.std.specs.declared.result.Result.TheVariants.{Ok, Err}
use Rattle.rules.specs.declared.Refusal.{Refusal}
use Rattle.rules.specs.declared.KnownSegment.{KnownSegment}
use Rattle.rules.specs.Told.{Told, gives, refused, Call}
use Rattle.rules.specs.Frame.{Known}
use Rattle.rules.specs.Fetch.{known_of}
use Rattle.rules.specs.Promises.{SegmentFound}
use Rattle.rules.proofs.Logic.{not-given}
use Rattle.rules.proofs.Modes.{length-met}
use Rattle.rules.proofs.Unique.{told-unique}
use Rattle.demands.specs.Demand1.{Succeeded, Left, Demand1}

-- a text that is given, or a refusal
succeeded : (t : Told (List ℕ)) (before : List ℕ) (n : ℕ) (after : List ℕ) → Call t before (Ok n) after → Succeeded t before n after
succeeded (gives w) before n after c =
    let l : n ≡ length w = cc c.told in
    record { text = w; given = refl; long = l; buffer = c.buffer ∙ ap (λ (k : ℕ). w ++ drop k before) (sym l) }
succeeded (refused k s f) before n after c = not-given (sym c.told)

left : (t : Told (List ℕ)) (before : List ℕ) (r : Refusal) (after : List ℕ) → Call t before (Err r) after → Left t before r after
left (gives w) before r after c = not-given c.told
left (refused k s f) before r after c = record { given = cc c.told; buffer = c.buffer }

-- a known segment by its place: its bytes are as many as it has
known-length : (m : List ℕ) (s : KnownSegment) → s.start + s.len ≤ length m → length (known_of m s).body ≡ s.len
known-length m s h =
    let x : List ℕ = drop s.start m in
    omega (arith, length-met (take s.len x), length-take s.len x, length-drop s.start m)

same-segment : (m : List ℕ) (s t : KnownSegment) → s.start + s.len ≤ length m → t.start + t.len ≤ length m → known_of m s ≡ known_of m t → s ≡ t
same-segment m s t hs ht e =
    let l : s.len ≡ t.len = sym (known-length m s hs) ∙ ap (λ (k : Known). length k.body) e ∙ known-length m t ht in
    ap (λ n. record { name = n; start = s.start; len = s.len }) (ap (λ (k : Known). k.name) e)
    ∙ ap (λ n. record { name = t.name; start = n; len = s.len }) (ap (λ (k : Known). k.start) e)
    ∙ ap (λ n. record { name = t.name; start = t.start; len = n }) l

one-segment : (m : List ℕ) (o : ℕ) (a b : Option KnownSegment) → SegmentFound m o a → SegmentFound m o b → a ≡ b
one-segment m o (Some s) (Some t) p q =
    let e : gives (known_of m s) ≡ gives (known_of m t) = p.told ∙ sym q.told in
    ap Some (same-segment m s t (p.within s refl) (q.within t refl) (cc))
one-segment m o (Some s) None p q = cc (p.told, q.told)
one-segment m o None (Some t) p q = cc (p.told, q.told)
one-segment m o None None p q = refl

pub demand1 : Demand1
demand1 =
    record {
      succeeds = succeeded;
      leaves = left;
      one-call = λ t before r s after behind p q. (told-unique r s (p.told ∙ sym q.told), p.buffer ∙ sym q.buffer);
      one-check = λ m a b p q. told-unique a b (p ∙ sym q);
      one_place = λ m o f c a b p q. told-unique a b (p.told ∙ sym q.told);
      one-stretch = λ m l p x y a b u v. (u.bytes ∙ sym v.bytes, u.place ∙ sym v.place);
      one-segment = one-segment;
    }
