-- Laws of pieces, one after another. Assumes nothing.
use mathlib.Core.Path.{◌≡◌, refl, sym, ap, ◌∙◌}
use mathlib.Core.List.{List, [], ◌∷◌, ◌++◌, append_assoc}
use Prim.Native.Nat.{ℕ, suc, ◌+◌, ◌-◌, ◌≤◌, ◌<◌}
use native.Mathlib.Omega.{arith}
use borrow.Author.Tests.{lt-ltb, le-ltb}
use lib.ListN.{length, take, drop, length-append, length-drop, get_or-eq_default}
use lib.Seq.{drop-drop, length-take-le}
use Rattle.rules.specs.declared.Mode.TheVariants.{One}
use Rattle.rules.specs.Lists.{nth, split, front, later}
use Rattle.rules.specs.Shift.{marks, met}
use Rattle.rules.specs.Proper.{Delim}
use Rattle.rules.specs.Fetch.{span, start_of}
use Rattle.rules.proofs.Lists.{rest-is, take_own, nth-at}
use Rattle.rules.proofs.Split.{split-cons}
use Rattle.rules.proofs.Modes.{length-met, take-marks}
use Rattle.plain_bytes.specs.Bytes.{until, is_byte}
use Rattle.scan.proofs.Laws.{take-until, after-drop, first_piece}
use Rattle.scan.proofs.Walk.{past_next}
use Rattle.plain_bytes.proofs.Laws.{split-last, split-more}
use Rattle.pieces.specs.Pieces.{PieceOf, Nearest}

-- what follows a separator that acts is met from one-byte mode on
next-met : (sep : ℕ) → Delim sep → (u : List ℕ) (len : ℕ) → len ≡ length (until (is_byte sep) (met u)) → len < length u → drop (suc len) (met u) ≡ met (drop (len + 1) u)
unfolding met
next-met sep p u len e h =
    let k : suc len ≡ len + 1 = omega arith in
    ap (λ n. drop n (met u)) k ∙ sym (drop-drop 1 len (met u)) ∙ ap (λ n. drop 1 (drop n (met u))) e ∙ sym (after-drop sep (met u))
    ∙ sym (past_next u sep len p e (omega arith) (λ q. omega arith))

span-end : (ps : List (List ℕ)) (p : List ℕ) → span (ps ++ (p ∷ [])) ≡ span ps + suc (length p)
unfolding span
span-end [] p = omega arith
span-end (q ∷ ps) p = omega (arith, span-end ps p)

-- after `number` pieces, at `at`, a piece of `len` bytes comes next
pub record Walked (sep : ℕ) (s : List ℕ) (number at len : ℕ) : Type 0 where
  pub passed : List (List ℕ)
  pub pieces : split sep (met s) ≡ passed ++ split sep (met (drop at s))
  pub count : length passed ≡ number
  pub place : span passed ≡ at
  pub long : len ≡ length (until (is_byte sep) (met (drop at s)))

pub walked-starts : (sep : ℕ) (s : List ℕ) (len : ℕ) → len ≡ length (until (is_byte sep) (marks 0x0D One s)) → Walked sep s 0 0 len
unfolding met span
walked-starts sep s len e = record { passed = []; pieces = refl; count = refl; place = refl; long = e }

module _ (sep : ℕ) (s : List ℕ) (number at len : ℕ) (inv : Walked sep s number at len) where
  abbrev rest : List ℕ
  rest = met (drop at s)

  walked_on : (next : ℕ) → Delim sep → at + len ≤ length s → (at + len ≡ length s → ⊥)
      → next ≡ length (until (is_byte sep) (marks 0x0D One (take (length s - (at + len + 1)) (drop (at + len + 1) s)))) → Walked sep s (number + 1) (at + len + 1) next
  unfolding met
  walked_on next p h g e =
      let l : len < length (drop at s) = omega (arith, length-drop at s) in
      let m : length (until (is_byte sep) rest) < length rest = omega (arith, inv.long, length-met (drop at s)) in
      let k : at + (len + 1) ≡ at + len + 1 = omega arith in
      let after : drop (suc len) rest ≡ met (drop (at + len + 1) s) = next-met sep p (drop at s) len inv.long l ∙ ap met (drop-drop (len + 1) at s ∙ ap (λ n. drop n s) k) in
      let cut : split sep rest ≡ take len rest ∷ split sep (met (drop (at + len + 1) s))
      = rw (← inv.long) at (split-more sep rest m) ∙ ap (λ t. take len rest ∷ split sep t) after in
      record {
        passed = inv.passed ++ (take len rest ∷ []);
        pieces = inv.pieces ∙ ap (λ ps. inv.passed ++ ps) cut ∙ sym (append_assoc inv.passed (take len rest ∷ []) (split sep (met (drop (at + len + 1) s))));
        count = length-append inv.passed (take len rest ∷ []) ∙ ap (λ n. n + 1) inv.count;
        place = span-end inv.passed (take len rest) ∙ omega (arith, inv.place, length-take-le len rest (omega (arith, length-met (drop at s))));
        long = e ∙ ap (λ l. length (until (is_byte sep) (met l))) (rest-is s (at + len + 1));
      }

  pub walked_next : (next i a l : ℕ) → Delim sep → at + len ≤ length s → (at + len ≡ length s → ⊥)
      → next ≡ length (until (is_byte sep) (marks 0x0D One (take (length s - (at + len + 1)) (drop (at + len + 1) s))))
      → i ≡ number + 1 → a ≡ at + len + 1 → l ≡ next → Walked sep s i a l
  walked_next next i a l p h g e ei ea el = rw (ei, ea, el) (walked_on next p h g e)

  -- the piece that stands there
  piece_is : PieceOf sep number s at len
  unfolding start_of met front
  piece_is =
      let cut : split sep (met s) ≡ inv.passed ++ (front sep rest ∷ later sep rest) = inv.pieces ∙ ap (λ ps. inv.passed ++ ps) (split-cons sep rest) in
      let first : nth (split sep (met s)) number ≡ until (is_byte sep) rest
      = ap (λ ps. nth ps number) cut ∙ rw (← inv.count) (nth-at inv.passed (front sep rest) (later sep rest)) ∙ first_piece sep rest in
      let size : number < length (split sep (met s)) = omega (arith, ap length cut, length-append inv.passed (front sep rest ∷ later sep rest), inv.count) in
      let before : take number (split sep (met s)) ≡ inv.passed = ap (take number) cut ∙ rw (← inv.count) (take_own inv.passed (front sep rest ∷ later sep rest)) in
      record {
        start = sym (rw (lt-ltb number (length (split sep (met s))) size, before) inv.place);
        own = sym (take-marks 0x0D len One (drop at s)) ∙ ap (λ n. take n rest) inv.long ∙ take-until (is_byte sep) rest ∙ sym first;
        long = inv.long ∙ ap length (sym first);
      }

  pub reach-there : (n : ℕ) → number ≤ n → n ≤ number → Nearest sep n s number at len
  reach-there n h g = record { piece = piece_is; near = h; last = λ l. absurd (omega arith) }

  pub reach-last : (n : ℕ) → number ≤ n → at + len ≡ length s → Nearest sep n s number at len
  reach-last n h e =
      let z : length (until (is_byte sep) rest) ≡ length rest = omega (arith, inv.long, length-met (drop at s), length-drop at s) in
      let cut : split sep (met s) ≡ inv.passed ++ (rest ∷ []) = inv.pieces ∙ ap (λ ps. inv.passed ++ ps) (split-last sep rest z) in
      record { piece = piece_is; near = h; last = λ l. omega (arith, ap length cut, length-append inv.passed (rest ∷ []), inv.count) }

module _ (sep n : ℕ) (s : List ℕ) (number at len : ℕ) (r : Nearest sep n s number at len) where
  pub nth-there : n ≤ number → PieceOf sep n s at len
  nth-there h = let e : number ≡ n = omega (arith, r.near) in rw (← e) r.piece

  -- an absent one is empty, at the end
  pub nth-absent : number < n → PieceOf sep n s (length s) 0
  unfolding start_of met marks
  nth-absent h =
      let few : length (split sep (met s)) ≤ n = omega (arith, r.last h) in
      let none : nth (split sep (met s)) n ≡ [] = get_or-eq_default (split sep (met s)) [] few in
      record {
        start = sym (rw (le-ltb n (length (split sep (met s))) few) (length-met s));
        own = sym none;
        long = sym (ap length none);
      }
