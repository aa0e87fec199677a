-- A written segment stays under 850 bytes: the rules bound the values, and only a text is escaped, to three bytes for one. Assumes nothing.
use mathlib.Core.Path.{◌≡◌, refl}
use mathlib.Core.Bool.{Bool, true, false, cond, not, ◌&&◌, ◌||◌}
use mathlib.Core.List.{List, [], ◌∷◌, ◌++◌}
use Prim.Native.Nat.{ℕ, suc, ◌+◌, ◌*◌, ◌≤◌, ◌<◌}
use native.Mathlib.Omega.{arith}
use borrow.Author.Tests.{ltb-false, leb-true, eqb-true}
use lib.Dec.{eqb, leb}
use lib.ListN.{length, length-append}
use Rattle.rules.specs.declared.Delims.{Delims}
use Rattle.rules.specs.declared.Name.{Name}
use Rattle.rules.specs.declared.Name.TheVariants.{Msh, Spm, Obr, Obx}
use Rattle.rules.specs.Lists.{bytes, empty, filled, same, all, split, onto, is_one_of, decimal}
use Rattle.rules.specs.Shift.{marks, met}
use Rattle.rules.specs.Frame.{capital_or_digit, spelling, is, counting, Reached}
use Rattle.rules.specs.Proper.{Proper}
use Rattle.rules.specs.Value.{Rule, time, date, numeric, text, digits, capitals, words, digits_ok, day_ok, clock_ok, holds, too_long, fits}
use Rattle.rules.specs.Escape.{escape, escape_met}
use Rattle.rules.specs.Places.{places, entry_in, entry_of, value_rules}
use Rattle.rules.specs.Judge.{is_sn}
use Rattle.rules.specs.Row.{line, lines, four_at, Row, header, patient, visit, specimen, order, result, group_of, values}
use Rattle.rules.specs.Sheet.{past_group, valid}
use Rattle.rules.specs.Message.{composed, blanks, encoding, name_text, names_text, value_text, Piece, Numbers, counted, pieces_of, pieces, segment_text}
use Rattle.rules.proofs.Logic.{cases, both}
use Rattle.rules.proofs.Lists.{empty-is, one_of}
use Rattle.rules.proofs.Measures.{total, join-total, tens, decimal-few}
use Rattle.rules.proofs.Escaped.{plain_byte, word, escaped-length}
use Rattle.rules.proofs.Plain.{bytewise, number-plain, digits-plain, capitals-plain}
use Rattle.returns.proofs.Groups.{Facts, facts, meets-rule}
use Rattle.returns.proofs.Segments.{piece_at}
use Rattle.returns.proofs.Messages.{first}

-- ---- a value of the rule is written with at most n bytes
unfoldable at_most : ℕ → Rule → Bool
at_most n time = leb 14 n
at_most n date = leb 8 n
at_most n numeric = leb 16 n
at_most n (text k) = leb (3 * k) n
at_most n (digits k) = leb k n
at_most n (capitals k) = leb k n
at_most n (words ws) = all (λ (w : List ℕ). leb (length w) n && all plain_byte w) (split 0x20 (bytes ws))

-- to unfold this name is to see that a given rule is so bounded
unfoldable bounded : Unit {0}
unfolding at_most split onto bytewise
bounded = tt

module _ (d : Delims) (p : Proper d) where
  plainly : (n k : ℕ) (v : List ℕ) → leb k n ≡ true → length v ≤ k → all plain_byte v ≡ true → length (escape d v) ≤ n
  plainly n k v a l h = rw (word d p v h).0 (omega (arith, leb-true k n a))

  digitly : (n k : ℕ) (v : List ℕ) → leb k n ≡ true → digits_ok k v ≡ true → length (escape d v) ≤ n
  digitly n k v a h = plainly n k v a (omega (arith, eqb-true (length v) k (both (eqb (length v) k) _ h).0)) (digits-plain k v h)

  filled-sized : (n : ℕ) (r : Rule) (v : List ℕ) → at_most n r ≡ true → too_long r v ≡ false → holds r v ≡ true → length (escape d v) ≤ n
  unfolding at_most too_long holds
  filled-sized n time v a t h = digitly n 14 v a (both (digits_ok 14 v) (day_ok v) (both (digits_ok 14 v && day_ok v) (clock_ok v) h).0).0
  filled-sized n date v a t h = digitly n 8 v a (both (digits_ok 8 v) (day_ok v) h).0
  filled-sized n numeric v a t h = plainly n 16 v a (ltb-false 16 (length v) t) (number-plain v h)
  filled-sized n (text k) v a t h = omega (arith, leb-true (3 * k) n a, escaped-length d v, ltb-false k (length v) t)
  filled-sized n (digits k) v a t h = digitly n k v a h
  filled-sized n (capitals k) v a t h =
      let q = both (leb (length v) k) (all capital_or_digit v) h in
      plainly n k v a (leb-true (length v) k q.0) (capitals-plain v q.1)
  filled-sized n (words ws) v a t h =
      let q = both (leb (length v) n) (all plain_byte v) (one_of (λ (w : List ℕ). leb (length w) n && all plain_byte w) v (split 0x20 (bytes ws)) (unfold is_one_of in h) a) in
      rw (word d p v q.1).0 (leb-true (length v) n q.0)

  sized : (n : ℕ) (q : Bool) (r : Rule) (v : List ℕ) → at_most n r ≡ true → fits q r v ≡ true → length (escape d v) ≤ n
  sized n q r v a h =
      cases (empty v)
      (λ e. rw (empty-is v e) (unfold escape escape_met met marks in omega arith))
      (λ e. let m = meets-rule q r v e h in filled-sized n r v a m.0 m.1)

-- ---- joined fields
segment-total : (d : Delims) (q : Piece) → length (segment_text d q) ≡ length (spelling q.name) + total q.fields
unfolding segment_text
segment-total d q = join-total d.field (spelling q.name) q.fields

composed-total : (d : Delims) (c : List ℕ) (cs : List (List ℕ)) → length (composed d (c ∷ cs)) ≡ length c + total cs
unfolding composed
composed-total d c cs = join-total d.component c cs

cond-length : (b : Bool) (x y : List ℕ) → length (cond b x y) ≤ length x + length y
cond-length true x y = omega arith
cond-length false x y = omega arith

decimal-short : (n : ℕ) → n < 1000 → length (decimal n) ≤ 3
unfolding tens
decimal-short n h = decimal-few 2 n h

-- ---- the numbers of a row: each at most k
abbrev pub AtMost : ℕ → Numbers → Type 0
AtMost k n = (n.specimen ≤ k) × (n.result ≤ k)

at-most : (k l : ℕ) (n : Numbers) → k ≤ l → AtMost k n → AtMost l n
at-most k l n e h = (omega (arith, h.0), omega (arith, h.1))

counting_more : (x r : Name) (n k : ℕ) (g : Name) → n ≤ k → counting x r n g ≤ suc k
unfolding counting
counting_more x r n k g h =
    cases (is g x) (λ e. rw e (omega arith)) (λ e. cases (is g r) (λ f. rw (e, f) (omega arith)) (λ f. rw (e, f) (omega arith)))

one_more : (n : Numbers) (k : ℕ) (g : Name) → AtMost k n → AtMost (suc k) (counted n g)
unfolding counted
one_more n k g h = (counting_more Spm Msh n.specimen k g h.0, counting_more Obx Obr n.result k g h.1)

-- ---- each row's segments
abbrev pub Short : Delims → List Piece → Type 0
Short d [] = Unit
Short d (q ∷ qs) = (length (segment_text d q) < 850) × Short d qs

module _ (d : Delims) (p : Proper d) where
  name-short : (f g mark : List ℕ) → length mark ≤ 1 → length (escape d f) ≤ 144 → length (escape d g) ≤ 144 → length (name_text d f g mark) ≤ 297
  unfolding name_text total bytes
  name-short f g mark n hf hg = omega (arith, composed-total d (escape d f) (escape d g ∷ [] ∷ [] ∷ [] ∷ [] ∷ bytes "L" ∷ mark ∷ []))

  names-short : (f g kf kg : List ℕ) → length (escape d f) ≤ 144 → length (escape d g) ≤ 144 → length (escape d kf) ≤ 144 → length (escape d kg) ≤ 144
      → length (names_text d f g kf kg) ≤ 595
  unfolding names_text bytes
  names-short f g kf kg hf hg hkf hkg =
      rw length-append
      (omega (
        arith,
        name-short f g (bytes "I") (omega arith) hf hg,
        name-short kf kg (bytes "P") (omega arith) hkf hkg,
        cond-length (empty kf) [] (d.repetition ∷ name_text d kf kg (bytes "P")),
      ))

  value-short : (type c v j s : List ℕ) → fits false (value_rules type).compare c ≡ true → fits false (value_rules type).value v ≡ true
      → fits false (value_rules type).join j ≡ true → fits false (value_rules type).second s ≡ true → length (value_text d type c v j s) ≤ 600
  unfolding value_text value_rules total
  value-short type c v j s fc fv fj fs =
      cases (is_sn type)
      (λ e.
      rw e
      (omega (
        arith,
        cond-length (not (empty v)) (composed d (escape d c ∷ escape d v ∷ escape d j ∷ escape d s ∷ [])) (escape d v),
        composed-total d (escape d c) (escape d v ∷ escape d j ∷ escape d s ∷ []),
        sized d p 2 false (words "> < >= <= = <>") c (unfold bounded in refl) (rw e at fc),
        sized d p 16 false numeric v (unfold bounded in refl) (rw e at fv),
        sized d p 1 false (words "- + / . :") j (unfold bounded in refl) (rw e at fj),
        sized d p 16 false numeric s (unfold bounded in refl) (rw e at fs),
      )))
      (λ e.
      rw e
      (cases (same type (bytes "NM"))
      (λ f. sized d p 600 false numeric v (unfold bounded in refl) (rw (e, f) at fv))
      (λ f. sized d p 600 false (text 200) v (unfold bounded in refl) (rw (e, f) at fv))))

  row-short : (r : Row) (n : Numbers) (qs : List Piece) → AtMost 999 n → Facts (lines (group_of r)) [] (values r) → Short d qs → Short d (pieces_of d n r ++ qs)
  unfolding pieces_of values blanks encoding lines line four_at entry_in entry_of places total spelling bytes
  row-short (header mode sent control) n qs N F S =
      let q = pieces_of d n (header mode sent control) in (
        omega (
          arith,
          segment-total d (piece_at q 0),
          composed-total d (bytes "OUL") (bytes "R22" ∷ bytes "OUL_R22" ∷ []),
          sized d p 1 true (words "P T D") mode (unfold bounded in refl) F.1.0.1,
          sized d p 14 true time sent (unfold bounded in refl) F.1.1.0.1,
          sized d p 60 true (text 20) control (unfold bounded in refl) F.1.1.1.0.1,
        ),
        S,
      )
  row-short (patient id f g kf kg birth sex) n qs N F S =
      let Fk = F.1.1.1 in
      let kgk = both (fits false (text 48) kg) (filled kf || empty kg) Fk.1.0.1 in
      let t : (q : Bool) (v : List ℕ) → fits q (text 48) v ≡ true → length (escape d v) ≤ 144 = λ q v. sized d p 144 q (text 48) v (unfold bounded in refl) in (
        omega (
          arith,
          segment-total d (piece_at (pieces_of d n (patient id f g kf kg birth sex)) 0),
          names-short f g kf kg (t true f F.1.0.1) (t false g F.1.1.0.1) (t false kf Fk.0.1) (t false kg kgk.0),
          sized d p 60 true (text 20) id (unfold bounded in refl) F.0.1,
          sized d p 8 false date birth (unfold bounded in refl) Fk.1.1.0.1,
          sized d p 1 true (words "M F O U") sex (unfold bounded in refl) Fk.1.1.1.0.1,
        ),
        S,
      )
  row-short (visit class) n qs N F S =
      (omega (arith, segment-total d (piece_at (pieces_of d n (visit class)) 0), sized d p 1 true (words "I O") class (unfold bounded in refl) F.0.1), S)
  row-short (specimen kind collected) n qs N F S = (
    omega (
      arith,
      segment-total d (piece_at (pieces_of d n (specimen kind collected)) 0),
      composed-total d (escape d kind) ([] ∷ bytes "JC10" ∷ []),
      decimal-short n.specimen (omega (arith, N.0)),
      sized d p 3 true (digits 3) kind (unfold bounded in refl) F.0.1,
      sized d p 14 true time collected (unfold bounded in refl) F.1.0.1,
    ),
    S,
  )
  row-short (order id group) n qs N F S =
      let l = sized d p 15 true (digits 15) id (unfold bounded in refl) F.0.1 in (
        omega (
          arith,
          segment-total d (piece_at (pieces_of d n (order id group)) 0),
          composed-total d (escape d group) ([] ∷ bytes "99003" ∷ []),
          sized d p 8 true (capitals 8) group (unfold bounded in refl) F.1.0.1,
        ),
        (omega (arith, segment-total d (piece_at (pieces_of d n (order id group)) 1)), S),
      )
  row-short (result item name type c v k s unit flag status) n qs N F S =
      let Fc = F.1.1.1 in
      let Fu = Fc.1.1.1.1 in
      let r = value_rules type in (
        omega (
          arith,
          segment-total d (piece_at (pieces_of d n (result item name type c v k s unit flag status)) 0),
          composed-total d (escape d item) (escape d name ∷ bytes "JC10" ∷ []),
          value-short type c v k s
              (both (fits false r.compare c) true Fc.0.1).0
              (both (fits false r.value v) true Fc.1.0.1).0
              (both (fits false r.join k) true Fc.1.1.0.1).0
              (both (fits false r.second s) _ Fc.1.1.1.0.1).0,
          decimal-short n.result (omega (arith, N.1)),
          sized d p 17 true (capitals 17) item (unfold bounded in refl) F.0.1,
          sized d p 144 false (text 48) name (unfold bounded in refl) F.1.0.1,
          sized d p 2 true (words "NM SN ST") type (unfold bounded in refl) F.1.1.0.1,
          sized d p 60 false (text 20) unit (unfold bounded in refl) Fu.0.1,
          sized d p 2 false (words "L H LL HH N A") flag (unfold bounded in refl) Fu.1.0.1,
          sized d p 1 true (words "F P C I X") status (unfold bounded in refl) (both (fits true (words "F P C I X") status) _ Fu.1.1.0.1).0,
        ),
        S,
      )

  -- ---- all of them: the counters stay under the number of segments
  some-piece : (r : Row) (n : Numbers) → 1 ≤ length (pieces_of d n r)
  unfolding pieces_of
  some-piece (header x1 x2 x3) n = omega arith
  some-piece (patient x1 x2 x3 x4 x5 x6 x7) n = omega arith
  some-piece (visit x1) n = omega arith
  some-piece (specimen x1 x2) n = omega arith
  some-piece (order x1 x2) n = omega arith
  some-piece (result x1 x2 x3 x4 x5 x6 x7 x8 x9 x10) n = omega arith

  pub short : (a : Reached) (k : ℕ) (n : Numbers) (rows : List Row) → valid a rows ≡ true → AtMost k n → k + length (pieces d n rows) ≤ 512 → Short d (pieces d n rows)
  unfolding pieces
  short a k n [] v N h = tt
  short a k n (r ∷ rs) v N h =
      let f = first a r rs v in
      let m = counted n (group_of r) in
      let l = length-append (pieces_of d m r) (pieces d m rs) in
      let s = some-piece r m in
      let o = one_more n k (group_of r) N in
      row-short r m (pieces d m rs) (at-most (suc k) 999 m (omega arith) o) (facts (lines (group_of r)) [] (values r) f.holds)
      (short (past_group a (group_of r)) (suc k) m rs f.rest o (omega arith))
