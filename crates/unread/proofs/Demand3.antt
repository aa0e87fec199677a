-- Demand 3 holds. Assumes nothing.
use mathlib.Core.Path.{◌≡◌, refl, sym, ap, ◌∙◌}
use mathlib.Core.Bool.{true}
use mathlib.Core.List.{List}
use Prim.Native.Nat.{ℕ, ◌+◌, ◌≤◌}
use borrow.Author.Tests.{le-leb}
use lib.ListN.{length}
use Rattle.std.specs.declared.option.Option.{Option}
use Rattle.std.specs.declared.option.Option.TheVariants.{Some, None}
use Rattle.std.specs.declared.result.Result.{Result}
use Rattle.std.specs.declared.result.Result.TheVariants.{Ok, Err}
use Rattle.rules.specs.declared.KnownSegment.{KnownSegment}
use Rattle.rules.specs.declared.Refusal.{Refusal}
use Rattle.rules.specs.declared.Span.{Span}
use Rattle.rules.specs.Told.{Told, gives, refused, told, length_of, over, Call, ◌>>=◌}
use Rattle.rules.specs.Frame.{Known}
use Rattle.rules.specs.View.{view}
use Rattle.rules.specs.Check.{check_told}
use Rattle.rules.specs.Fetch.{fetch_told, bytes_at, part_told, span_told, span_in, found_told}
use Rattle.rules.specs.Sheet.{to_sheet}
use Rattle.rules.specs.Promises.{Located, SegmentFound}
use Rattle.rules.proofs.Unique.{told-unique}
use Rattle.unread.specs.Differs.{Differs}
use Rattle.unread.specs.Same.{Keeps, refusal_of, name_told, name_found, part_read, SameAnswers, SameReturns}
use Rattle.unread.specs.Demand3.{Demand3}
use Rattle.unread.proofs.Differs.{differs-view, differs-same, differs-sym, differs-trans}
use Rattle.unread.proofs.Edits.{edits-differ}
use Rattle.unread.proofs.Parts.{part_same, text_same, refusal-same, name-same}

unseen : (m n : List ℕ) → Keeps m → Keeps n → Differs m n → SameAnswers m n
unfolding check_told to_sheet
unseen m n hm hn r =
    let e : view m ≡ view n = differs-view m n r in
    let c : check_told m ≡ check_told n = cc (hm, hn, e) in
    record {
      check = c;
      sheet = λ room. cc (c, e);
      part = λ o f k. part_same m n c r o f k hm hn;
      text = λ o f k room. text_same m n c r o f k hm hn room;
      refusal = λ o f k. refusal-same m n c r o f k;
      segment = name-same m n r;
    }

-- ---- the calls, by their promises
-- one that writes
same-call : {t u : Told (List ℕ)} {old x y : List ℕ} {a b : Result ℕ Refusal} → t ≡ u → Call t old a x → Call u old b y → (a ≡ b) × (x ≡ y)
same-call {old = old} {a = a} {b = b} e p q = (
  told-unique a b (p.told ∙ ap length_of e ∙ sym q.told),
  p.buffer ∙ ap (λ (t : Told (List ℕ)). over t old) e ∙ sym q.buffer,
)

-- the bytes of the stretch that is told
same_bytes : (m n : List ℕ) (t u : Told Span) → (t >>= λ p. gives (bytes_at m p)) ≡ (u >>= λ p. gives (bytes_at n p)) → bytes_at m (span_told t) ≡ bytes_at n (span_told u)
same_bytes m n (gives p) (gives q) e = cc
same_bytes m n (gives p) (refused i s f) e = cc
same_bytes m n (refused i s f) (gives q) e = cc
same_bytes m n (refused i s f) (refused j r g) e = unfold bytes_at in refl

part_bytes : (m n : List ℕ) → SameAnswers m n → (o f c : ℕ) → part_read m o f c ≡ true → bytes_at m (span_told (fetch_told m o f c)) ≡ bytes_at n (span_told (fetch_told n o f c))
unfolding part_told
part_bytes m n s o f c h = same_bytes m n (fetch_told m o f c) (fetch_told n o f c) (s.part o f c h)

-- and of the one that locate names, which lies in the message
span-in : (m : List ℕ) (a : Result Span Refusal) → ((p : Span) → a ≡ Ok p → p.start + p.len ≤ length m) → span_in (length m) a ≡ span_told (told a)
unfolding span_in
span-in m (Ok p) h = rw (le-leb (p.start + p.len) (length m) (h p refl))
span-in m (Err r) h = refl

located-bytes : (m : List ℕ) (o f c : ℕ) (a : Result Span Refusal) → Located m o f c a → bytes_at m (span_in (length m) a) ≡ bytes_at m (span_told (fetch_told m o f c))
located-bytes m o f c a p = ap (bytes_at m) (span-in m a p.within ∙ ap span_told p.told)

-- the name of the segment that is found
found_name : (m : List ℕ) (a : Option KnownSegment) → name_found a ≡ (found_told m a >>= λ k. gives k.name)
found_name m (Some s) = refl
found_name m None = refl

name-is : (m : List ℕ) (o : ℕ) (a : Option KnownSegment) → SegmentFound m o a → name_found a ≡ name_told m o
name-is m o a p = found_name m a ∙ ap (λ (t : Told Known). t >>= λ k. gives k.name) p.told

calls : (m n : List ℕ) → SameAnswers m n → SameReturns m n
calls m n s =
    record {
      check = λ a b p q. told-unique a b (p ∙ s.check ∙ sym q);
      sheet = λ old x y a b p q. same-call (s.sheet (length old)) p q;
      part = λ m-lies n-lies x-lies y-lies o f c x y h p q. p.bytes ∙ part_bytes m n s o f c h ∙ sym q.bytes;
      stretch = λ m-lies n-lies x-lies y-lies o f c a b x y h l k p q.
          p.bytes ∙ located-bytes m o f c a l ∙ part_bytes m n s o f c h ∙ sym (located-bytes n o f c b k) ∙ sym q.bytes;
      text = λ o f c old x y a b h p q. same-call (s.text o f c (length old) h) p q;
      located = λ o f c a b p q. ap refusal_of p.told ∙ s.refusal o f c ∙ sym (ap refusal_of q.told);
      segment = λ o a b p q. name-is m o a p ∙ s.segment o ∙ sym (name-is n o b q);
    }

pub demand3 : Demand3
demand3 =
    record {
      unseen = unseen;
      calls = calls;
      edits = λ m n es. edits-differ es;
      same = differs-same;
      back = differs-sym;
      on = differs-trans;
    }
