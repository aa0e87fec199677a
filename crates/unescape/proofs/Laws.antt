-- Laws of taking escapes out. Assumes nothing.
use Prim.Native.Nat.{ℕ, suc, ◌+◌, ◌≤◌, ◌<◌}
use native.Mathlib.Omega.{arith}
use mathlib.Core.Path.{◌≡◌, refl, sym, ap, subst, ◌∙◌}
use mathlib.Core.List.{List, [], ◌∷◌, ◌++◌, append-nil}
use mathlib.Core.Option.{Option, none, some}
use mathlib.Core.Bool.{Bool, true, false, cond}
use borrow.Author.Tests.{leb-true, leb-false}
use lib.Dec.{eqb, leb}
use lib.ListN.{length, get_or, take, drop, set, length-append}
use lib.Seq.{length-take-le}
use Rattle.rules.proofs.Logic.{cases, option_cases, nothing-some}
use Rattle.rules.proofs.Escaped.{push_cases}
use Rattle.rules.proofs.Lists.{here, over}
use Rattle.rules.proofs.Modes.{byte-met, length-marks}
use Rattle.rules.specs.declared.Delims.{Delims}
use Rattle.rules.specs.declared.Mode.{Mode}
use Rattle.rules.specs.declared.Mode.TheVariants.{One}
use Rattle.rules.specs.Shift.{mark, marks, met, byte_of, step}
use Rattle.rules.specs.Escape.{letters, meaning, push, unescape_at, unescape}
use Rattle.unescape.specs.Unescaped.{BufferHolds, turn_of, named_of, emitted, byte_at, kept_len, kept_buf, answer_of, fill, Whole, Fits}
use Rattle.unescape.specs.declared.At.{At}
use Rattle.unescape.specs.declared.At.TheVariants.{Plain, Opened, Named, Broken}
use Rattle.std.specs.declared.result.Result.{Result}
use Rattle.std.specs.declared.result.Result.TheVariants.{Ok, Err}
use Rattle.unescape.specs.declared.NotHeld.{NotHeld}
use Rattle.unescape.specs.declared.NotHeld.TheVariants.{Over}
use Rattle.rules.specs.Escape as E

-- ---- the reader
unfoldable pub res_of : Delims → At → List ℕ → Option (List ℕ)
res_of d Plain s = unescape_at d E.plain s
res_of d Opened s = unescape_at d E.opened s
res_of d (Named v) s = unescape_at d (E.named v) s
res_of d Broken s = none

unfoldable pub push_if : Bool → ℕ → Option (List ℕ) → Option (List ℕ)
push_if true b o = push b o
push_if false b o = o

unfoldable pub pushes : List ℕ → Option (List ℕ) → Option (List ℕ)
pushes [] o = o
pushes (b ∷ w) o = push b (pushes w o)

opened-on : (d : Delims) (x : ℕ) (s : List ℕ) → res_of d Opened (x ∷ s) ≡ res_of d (named_of d x) s
unfolding res_of unescape_at named_of letters meaning
opened-on d x s =
    cases (eqb x 70) (λ e. cc) (λ f. cases (eqb x 83) (λ e. cc) (λ g. cases (eqb x 84) (λ e. cc) (λ h. cases (eqb x 82) (λ e. cc) (λ k. cases (eqb x 69) (λ e. cc) (λ e. cc)))))

-- an escape's letter leads to no text
named-quiet : (d : Delims) (x : ℕ) → emitted (named_of d x) ≡ false
unfolding named_of
named-quiet d x =
    cases (eqb x 70) (λ e. cc) (λ f. cases (eqb x 83) (λ e. cc) (λ g. cases (eqb x 84) (λ e. cc) (λ h. cases (eqb x 82) (λ e. cc) (λ k. cases (eqb x 69) (λ e. cc) (λ e. cc)))))

res_on : (d : Delims) (at : At) (x : ℕ) (s : List ℕ) → res_of d at (x ∷ s) ≡ push_if (emitted (turn_of d at x)) (byte_at at (byte_of x)) (res_of d (turn_of d at x) s)
unfolding res_of unescape_at turn_of push_if
res_on d Plain x s = cases (eqb x d.escape) (λ e. cc) (λ e. cases (eqb x d.sub) (λ f. cc) (λ f. cc))
res_on d Opened x s = cc (opened-on d x s, named-quiet d x)
res_on d (Named v) x s = cases (eqb x d.escape) (λ e. cc) (λ e. cc)
res_on d Broken x s = refl

unfoldable pub emits : At → ℕ → List ℕ
emits t v = cond (emitted t) (v ∷ []) []

pushes-more : (w : List ℕ) (t : At) (v : ℕ) (o : Option (List ℕ)) → pushes w (push_if (emitted t) v o) ≡ pushes (w ++ emits t v) o
unfolding pushes push_if emits
pushes-more [] t v o = cases (emitted t) (λ e. cc) (λ e. cc)
pushes-more (b ∷ w) t v o = ap (push b) (pushes-more w t v o)

pushes-end : (w : List ℕ) → pushes w (some []) ≡ some w
unfolding pushes push
pushes-end [] = refl
pushes-end (b ∷ w) = ap (push b) (pushes-end w)

pushes-none : (w : List ℕ) → pushes w none ≡ none
unfolding pushes push
pushes-none [] = refl
pushes-none (b ∷ w) = ap (push b) (pushes-none w)

-- ---- the buffer
fill_more : (w old : List ℕ) (v : ℕ) → set (fill w old) (length w) v ≡ fill (w ++ (v ∷ [])) old
unfolding fill
fill_more [] [] v = refl
fill_more [] (o ∷ old) v = refl
fill_more (a ∷ w) [] v = refl
fill_more (a ∷ w) (o ∷ old) v = ap (λ (l : List ℕ). a ∷ l) (fill_more w old v)

fill-kept : (t : At) (v : ℕ) (w old : List ℕ) → kept_buf t (length w) v (fill w old) ≡ fill (w ++ emits t v) old
unfolding emits
fill-kept t v w old = cases (emitted t) (λ e. rw e (fill_more w old v)) (λ e. rw (e, append-nil))

pub fill-take : (w old : List ℕ) → length w ≤ length old → take (length w) (fill w old) ≡ w
unfolding fill
fill-take [] old h = refl
fill-take (v ∷ w) [] h = absurd (omega arith)
fill-take (v ∷ w) (o ∷ old) h = ap (λ (l : List ℕ). v ∷ l) (fill-take w old (omega arith))

fits-plain : (o : Option (List ℕ)) (done old x : List ℕ) (k : ℕ) → o ≡ some done → k ≡ length done → x ≡ fill done old → length x ≡ length old
    → (b : Bool) → leb k (length x) ≡ b → Fits (cond b (Ok k) (Err (Over k))) o x
fits-plain o done old x k a e f g true h =
    let l : k ≤ length x = leb-true k (length x) h in
    record { is = a ∙ ap some (sym (rw (e, f) (fill-take done old (omega arith)))); low = l }
fits-plain o done old x k a e f g false h = record { text = done; is = a; long = e; over = leb-false k (length x) h }

fits-end : (t : At) (d : Delims) (o : Option (List ℕ)) (done old x : List ℕ) (k : ℕ) → o ≡ pushes done (res_of d t []) → k ≡ length done → x ≡ fill done old
    → length x ≡ length old → Fits (answer_of t k (length x)) o x
unfolding res_of unescape_at
fits-end Plain d o done old x k a e f g = fits-plain o done old x k (a ∙ pushes-end done) e f g (leb k (length x)) refl
fits-end Opened d o done old x k a e f g = a ∙ pushes-none done
fits-end (Named v) d o done old x k a e f g = a ∙ pushes-none done
fits-end Broken d o done old x k a e f g = a ∙ pushes-none done

kept-end : (t : At) (d : Delims) (o : Option (List ℕ)) (done old x : List ℕ) → o ≡ pushes done (res_of d t []) → x ≡ fill done old → BufferHolds o old x
unfolding res_of unescape_at
kept-end Plain d o done old x a f = record { text = λ v e. let z : some v ≡ some done = sym e ∙ a ∙ pushes-end done in let q : v ≡ done = cc in rw q f }
kept-end Opened d o done old x a f = record { text = λ v e. nothing-some (sym (pushes-none done) ∙ sym a ∙ e) }
kept-end (Named w) d o done old x a f = record { text = λ v e. nothing-some (sym (pushes-none done) ∙ sym a ∙ e) }
kept-end Broken d o done old x a f = record { text = λ v e. nothing-some (sym (pushes-none done) ∙ sym a ∙ e) }

-- what the loop keeps
pub record Reading (d : Delims) (raw old x : List ℕ) (at : At) (mode : Mode) (k i : ℕ) : Type 0 where
  pub done : List ℕ
  pub low : i ≤ length raw
  pub room : length x ≡ length old
  pub few : k ≤ i
  pub ends : k ≡ length done
  pub holds : x ≡ fill done old
  pub rest : unescape d (met raw) ≡ pushes done (res_of d at (marks 0x0D mode (drop i raw)))

pub reads-begin : (d : Delims) (raw old : List ℕ) → Reading d raw old old Plain One 0 0
unfolding fill pushes res_of unescape met
reads-begin d raw old = record { done = []; low = omega arith; room = refl; few = omega arith; ends = refl; holds = refl; rest = refl }

module _ {d : Delims} {raw old x : List ℕ} {at : At} {mode : Mode} {k i : ℕ} (p : Reading d raw old x at mode k i) where
  kept-len : (t : At) (v j : ℕ) → j ≡ kept_len t k → (j ≡ length (p.done ++ emits t v)) × (j ≤ i + 1)
  unfolding emits
  kept-len t v j e =
      cases (emitted t)
      (λ g. let q : j ≡ k + 1 = rw g at e in (rw (g, length-append) (let z = p.ends in omega arith), (let z = p.few in omega arith)))
      (λ g. let q : j ≡ k = rw g at e in (rw (g, append-nil) (q ∙ p.ends), (let z = p.few in omega arith)))

  pub reads_on : {t : At} {j v : ℕ} {y : List ℕ} {m : Mode} → i < length raw → t ≡ turn_of d at (mark mode (get_or raw i 0)) → get_or raw i 0 < 256
      → v ≡ byte_at at (get_or raw i 0) → length y ≡ length x → (j ≡ kept_len t k) × (y ≡ kept_buf t k v x) → m ≡ step 0x0D mode (get_or raw i 0)
      → Reading d raw old y t m j (i + 1)
  unfolding marks
  reads_on {t} {j} {v} {y} {m} h e b f g q r =
      let n = kept-len t v j q.0 in
      let X : ℕ = mark mode (get_or raw i 0) in
      let S : List ℕ = marks 0x0D m (drop (i + 1) raw) in
      let a : marks 0x0D mode (drop i raw) ≡ X ∷ S = ap (marks 0x0D mode) (here 0 raw i h) ∙ ap (λ w. X ∷ marks 0x0D w (drop (i + 1) raw)) (sym r) in
      let u : res_of d at (X ∷ S) ≡ push_if (emitted t) v (res_of d t S)
      = res_on d at X S ∙ rw (byte-met mode (get_or raw i 0) b, ← e, ← f) in
      record {
        done = p.done ++ emits t v;
        low = omega arith;
        room = g ∙ p.room;
        few = n.1;
        ends = n.0;
        holds = q.1 ∙ rw (p.ends, p.holds) (fill-kept t v p.done old);
        rest = p.rest ∙ ap (λ l. pushes p.done (res_of d at l)) a ∙ ap (pushes p.done) u ∙ pushes-more p.done t v (res_of d t S);
      }

  all_read : length raw ≤ i → unescape d (met raw) ≡ pushes p.done (res_of d at [])
  unfolding marks
  all_read h = p.rest ∙ ap (λ l. pushes p.done (res_of d at (marks 0x0D mode l))) (over raw i h)

  pub reads_kept : length raw ≤ i → BufferHolds (unescape d (met raw)) old x
  reads_kept h = kept-end at d (unescape d (met raw)) p.done old x (all_read h) p.holds

  pub reads_end : {r : Result ℕ NotHeld} → length raw ≤ i → r ≡ answer_of at k (length x) → Fits r (unescape d (met raw)) x
  reads_end {r} h e =
      subst (λ (w : Result ℕ NotHeld). Fits w (unescape d (met raw)) x) (sym e) (fits-end at d (unescape d (met raw)) p.done old x k (all_read h) p.ends p.holds p.room)

-- ---- what an answer says
pub got-low : (u : Result ℕ NotHeld) (n : ℕ) (o : Option (List ℕ)) (x : List ℕ) → u ≡ Ok n → Fits u o x → n ≤ length x
got-low u n o x e w = let p : Whole n o x = subst (λ (z : Result ℕ NotHeld). Fits z o x) e w in p.low

pub got-count : (u : Result ℕ NotHeld) (n : ℕ) (o : Option (List ℕ)) (x : List ℕ) → u ≡ Ok n → Fits u o x → n ≡ length (take n x)
got-count u n o x e w = let p : Whole n o x = subst (λ (z : Result ℕ NotHeld). Fits z o x) e w in sym (length-take-le n x p.low)

-- ---- a value is no longer than its component
push-short : (x : ℕ) (o : Option (List ℕ)) (v : List ℕ) (n : ℕ) → push x o ≡ some v → ((w : List ℕ) → o ≡ some w → length w ≤ n) → length v ≤ suc n
push-short x o v n e f = push_cases x o v e (λ w q r. rw r (omega (arith, f w q)))

unescaped-short : (d : Delims) (at : E.At) (m v : List ℕ) → unescape_at d at m ≡ some v → length v ≤ length m
unfolding unescape_at
unescaped-short d E.plain [] v e = let q : v ≡ [] = cc in rw q (omega arith)
unescaped-short d E.opened [] v e = nothing-some e
unescaped-short d (E.named x) [] v e = nothing-some e
unescaped-short d E.plain (b ∷ m) v e =
    cases (eqb b d.escape)
    (λ t. omega (arith, unescaped-short d E.opened m v (rw (t, unescape_at) at e)))
    (λ t. cases (eqb b d.sub)
    (λ u. nothing-some (rw (t, u, unescape_at) at e))
    (λ u. push-short (byte_of b) (unescape_at d E.plain m) v (length m) (rw (t, u, unescape_at) at e) (unescaped-short d E.plain m)))
unescaped-short d E.opened (b ∷ m) v e =
    option_cases (meaning (letters d) b)
    (λ x q. omega (arith, unescaped-short d (E.named x) m v (rw (q, unescape_at) at e)))
    (λ q. nothing-some (rw (q, unescape_at) at e))
unescaped-short d (E.named x) (b ∷ m) v e =
    cases (eqb b d.escape)
    (λ t. push-short x (unescape_at d E.plain m) v (length m) (rw (t, unescape_at) at e) (unescaped-short d E.plain m))
    (λ t. nothing-some (rw (t, unescape_at) at e))

pub value-short : (d : Delims) (raw v : List ℕ) → unescape d (met raw) ≡ some v → length v ≤ length raw
unfolding unescape met
value-short d raw v e = omega (arith, unescaped-short d E.plain (met raw) v e, length-marks 0x0D One raw)
