-- Laws of OBX-5. Assumes nothing.
use Prim.Native.Nat.{ℕ, zero, suc, ◌+◌, ◌-◌, ◌≤◌}
use native.Mathlib.Omega.{arith}
use mathlib.Core.Path.{◌≡◌, refl, sym, ap, subst, ◌∙◌}
use mathlib.Core.Bool.{Bool, true, false, cond, not, ◌&&◌}
use mathlib.Core.List.{List, [], ◌∷◌}
use mathlib.Core.Option.{some}
use borrow.Author.Tests.{lt-ltb, le-ltb}
use lib.Dec.{eqb, ltb}
use lib.ListN.{length, drop}
use Rattle.rules.specs.declared.Delims.{Delims}
use Rattle.std.specs.declared.result.Result.{Result}
use Rattle.rules.specs.declared.Kind.{Kind}
use Rattle.rules.specs.declared.Kind.TheVariants.{Missing, Repeated, Escape, Value}
use Rattle.rules.specs.Told.{◌then◌, ◌when◌, number}
use Rattle.rules.specs.Lists.{bytes, empty, filled, same, has, nth, split}
use Rattle.rules.specs.Shift.{met, byte_of}
use Rattle.rules.specs.Proper.{Proper}
use Rattle.rules.specs.Value as Val
use Rattle.rules.specs.Escape.{plain, opened, named, letters, meaning, unescape, unescape_at}
use Rattle.rules.specs.Places.{Four, value_rules}
use Rattle.rules.specs.Judge.{judge, fault_or23, is_sn, raw_four, beside, unjoined, parts_fault, value_fault}
use Rattle.rules.proofs.Logic.{cases, option_cases, nothing-some, then-none, then-zero, when-none, and-true, and-false}
use Rattle.rules.proofs.Escaped.{push_cases}
use Rattle.rules.proofs.Modes.{length-met}
use Rattle.plain_bytes.specs.Bytes.{until, is_byte}
use Rattle.scan.specs.Scan.{ends, next}
use Rattle.value.specs.Rules.{fault_no, rule_of, rules_of}
use Rattle.value.specs.declared.Rule.{Rule}
use Rattle.value.specs.declared.Rule.TheVariants.{Time, Date, Number, Text, Digits, Capitals, OneOf}
use Rattle.value.specs.declared.Place.TheVariants.{May}
use Rattle.value.specs.declared.Parts.{Parts}
use Rattle.judge.specs.Judge.{Small}
use Rattle.components.specs.Components.{field_at, component_at, forward, place_fault, JudgedOf, components_fault, ComponentsOf}
use Rattle.components.proofs.Laws.{next-within}
use Rattle.components.proofs.Pieces.{component-at, components-over, forward-long, forward-repeats, rest-long, rest-none, whole-field}
use Rattle.obx_value.specs.Value.{SmallParts, shape_fault, component_from, last_two, joined_fault, LastOf, four_from, number_fault, NumberOf, ValueOf}

-- ---- faults
module _ (repeats excess : Bool) where
  pub shape-repeats : repeats ≡ true → number Repeated ≡ (22 when repeats then 23 when excess)
  shape-repeats h = rw h

  pub shape-excess : repeats ≡ false → excess ≡ true → number Escape ≡ (22 when repeats then 23 when excess)
  shape-excess h e = rw (h, e)

  pub shape-right : repeats ≡ false → excess ≡ false → 0 ≡ (22 when repeats then 23 when excess)
  shape-right h e = rw (h, e)

pub ruleset shape_laws = (shape-repeats, shape-excess, shape-right)

module _ (beside filled : Bool) (own : Result (Unit {0}) Kind) where
  pub needed-yes : (beside && not filled) ≡ true → number Missing ≡ (20 when (beside && not filled) then fault_no own)
  needed-yes h = rw h

  pub needed-no : (beside && not filled) ≡ false → fault_no own ≡ (20 when (beside && not filled) then fault_no own)
  needed-no h = rw h

pub ruleset needed_laws = (needed-yes, needed-no)

module _ (joiner second r : Bool) (g : (c : Four (List ℕ)) → joiner ≡ filled c.join → second ≡ filled c.second → r ≡ unjoined c) where
  pub unjoined-yes : r ≡ true → (c : Four (List ℕ)) → joiner ≡ filled c.join → second ≡ filled c.second → number Value ≡ (25 when unjoined c)
  unjoined-yes h c e f = rw (← g c e f, h)

  pub unjoined-no : r ≡ false → (c : Four (List ℕ)) → joiner ≡ filled c.join → second ≡ filled c.second → 0 ≡ (25 when unjoined c)
  unjoined-no h c e f = rw (← g c e f, h)

pub ruleset unjoined_laws = (unjoined-yes, unjoined-no)

-- ---- the shape
-- how much longer the field is than its first component
more-than : (a b : ℕ) → ltb a (a + b) ≡ ltb 0 b
more-than a zero = le-ltb a (a + 0) (omega arith) ∙ sym (le-ltb 0 0 (omega arith))
more-than a (suc b) = lt-ltb a (a + suc b) (omega arith) ∙ sym (lt-ltb 0 (suc b) (omega arith))

filled_is : (n : ℕ) (s : List ℕ) → n ≡ length s → ltb 0 n ≡ filled s
unfolding empty
filled_is n [] e = rw e
filled_is n (x ∷ s) e = rw e (lt-ltb 0 (suc (length s)) (omega arith))

-- of a field that is read up to its first component
module _ (d : Delims) (p : Proper d) (t : List ℕ) (h l : ℕ) (eh : h ≡ length (component_at d t)) (el : l ≡ length (field_at d t)) where
  over_first : has d.repetition (field_at d t) ≡ false → ltb 1 (length (split d.component (field_at d t))) ≡ ltb h l
  unfolding forward
  over_first z =
      let e : l ≡ h + length (until (is_byte d.field) (drop (length (component_at d t)) (met t))) = omega (arith, rest-long d (met t)) in
      components-over d p 0 (met t) z ∙ sym (rw e (more-than h (length (until (is_byte d.field) (drop (length (component_at d t)) (met t))))) ∙ rest-none d (met t) z)

  shape-first : (more : Bool) → more ≡ has d.repetition (field_at d t) → (22 when more then 23 when ltb h l) ≡ shape_fault d 0 (field_at d t)
  unfolding shape_fault
  shape-first more e = cases more (λ g. rw (← e, g)) (λ g. rw (← e, g, over_first (sym e ∙ g)))

-- of a field that is read from its start on, or from a later component on
shape-forward : (d : Delims) → Proper d → (n k : ℕ) (t u : List ℕ) → forward d n (met t) ≡ forward d k (met u) → shape_fault d k (field_at d u) ≡ shape_fault d n (field_at d t)
unfolding shape_fault
shape-forward d p n k t u e =
    let r : has d.repetition (field_at d u) ≡ has d.repetition (field_at d t)
    = sym (forward-repeats d p k (met u)) ∙ ap (λ m. has d.repetition (until (is_byte d.field) m)) (sym e) ∙ forward-repeats d p n (met t) in
    cases (has d.repetition (field_at d t))
    (λ h. rw (r, h))
    (λ h. rw (r, h, components-over d p k (met u) (r ∙ h), components-over d p n (met t) h, e))

-- ---- one part
-- an escape stands for a byte, so a filled component has a filled value
named-filled : (d : Delims) (x : ℕ) (m v : List ℕ) → unescape_at d (named x) m ≡ some v → empty v ≡ false
unfolding unescape_at empty
named-filled d x [] v e = nothing-some e
named-filled d x (y ∷ m) v e =
    cases (eqb y d.escape)
    (λ t. push_cases x (unescape_at d plain m) v (rw (t, unescape_at) at e) (λ w q r. rw r))
    (λ t. nothing-some (rw (t, unescape_at) at e))

opened-filled : (d : Delims) (m v : List ℕ) → unescape_at d opened m ≡ some v → empty v ≡ false
unfolding unescape_at
opened-filled d [] v e = nothing-some e
opened-filled d (y ∷ m) v e =
    option_cases (meaning (letters d) y)
    (λ z q. named-filled d z m v (rw (q, unescape_at) at e))
    (λ q. nothing-some (rw (q, unescape_at) at e))

plain-filled : (d : Delims) (x : ℕ) (m v : List ℕ) → unescape_at d plain (x ∷ m) ≡ some v → empty v ≡ false
unfolding unescape_at empty
plain-filled d x m v e =
    cases (eqb x d.escape)
    (λ t. opened-filled d m v (rw (t, unescape_at) at e))
    (λ t. cases (eqb x d.sub)
    (λ u. nothing-some (rw (t, u, unescape_at) at e))
    (λ u. push_cases (byte_of x) (unescape_at d plain m) v (rw (t, u, unescape_at) at e) (λ w q r. rw r)))

-- what is required of an empty component is 20, and of a filled one nothing more
required-none : (required : Bool) (d : Delims) (r : Val.Rule) → judge d required r [] ≡ (20 when required)
unfolding judge same bytes unescape unescape_at fault_or23 Val.fault empty
required-none true d r = refl
required-none false d r = refl

filled-fault : (required : Bool) (r : Val.Rule) (v : List ℕ) → empty v ≡ false → Val.fault required r v ≡ Val.fault false r v
unfolding Val.fault
filled-fault required r v h = rw h

required-some : (required : Bool) (d : Delims) (r : Val.Rule) (x : ℕ) (m : List ℕ) → judge d required r (x ∷ m) ≡ judge d false r (x ∷ m)
unfolding judge fault_or23 unescape
required-some required d r x m =
    option_cases (unescape_at d plain (x ∷ m))
    (λ v e. rw (e, filled-fault required r v (plain-filled d x m v e)))
    (λ e. rw e)

required-is : (required : Bool) (d : Delims) (r : Val.Rule) (raw : List ℕ) → judge d required r raw ≡ (20 when (required && not (filled raw)) then judge d false r raw)
unfolding empty
required-is required d r [] = rw (required-none required d r, required-none false d r, and-true required) (sym (then-zero (20 when required)))
required-is required d r (x ∷ m) = rw (and-false required) (required-some required d r x m)

-- ---- the parts, after 22 and 23
value-told : (d : Delims) (type f : List ℕ) (n k : ℕ) → cond (is_sn type) 4 1 ≡ suc n
    → (has d.repetition f ≡ false → parts_fault d (value_rules type) (raw_four d type f) ≡ k) → value_fault d type f ≡ (shape_fault d n f then k)
unfolding value_fault shape_fault
value-told d type f n k e w =
    cases (has d.repetition f)
    (λ h. rw h)
    (λ h. rw (h, w h, e))

unrepeated : (d : Delims) (n : ℕ) (f : List ℕ) (k : ℕ) → (shape_fault d n f then k) ≡ 0 → has d.repetition f ≡ false
unfolding shape_fault
unrepeated d n f k h =
    when-none 21 (has d.repetition f) (then-none (22 when has d.repetition f) (23 when ltb (suc n) (length (split d.component f))) (then-none (shape_fault d n f) k h).0).0

-- the field's components, where it has no repetition
field-component : (d : Delims) → Proper d → (n : ℕ) (t : List ℕ) → has d.repetition (field_at d t) ≡ false → nth (split d.component (field_at d t)) n ≡ component_from d (met t) n
field-component d p n t h = ap (λ l. nth (split d.component l) n) (whole-field d (met t) h) ∙ component-at d p n (met t)

-- ---- NM and ST
abbrev alone : List ℕ → Four (List ℕ)
alone v = record { compare = []; value = v; join = []; second = [] }

alone-fault : (d : Delims) (rs : Four Val.Rule) (v : List ℕ) → parts_fault d rs (alone v) ≡ judge d false rs.value v
unfolding parts_fault beside unjoined empty
alone-fault d rs v =
    rw (required-none false d rs.compare, required-none false d rs.join, required-none false d rs.second) (then-zero (judge d false rs.value v))

alone-is : (d : Delims) (type f : List ℕ) → is_sn type ≡ false → raw_four d type f ≡ alone (nth (split d.component f) 0)
unfolding raw_four
alone-is d type f s = rw s

module _ (t : List ℕ) (d : Delims) (rules : Parts) (a r f h l : ℕ) (more : Bool) (p : Proper d) (c : ComponentsOf d (May rules.value ∷ []) t more f h l)
    (e : a ≡ (22 when more then 23 when ltb h l)) (g : r ≡ (a then f)) (type : List ℕ) (s : is_sn type ≡ false) where
  single-raw : has d.repetition (field_at d t) ≡ false → raw_four d type (field_at d t) ≡ alone (component_at d t)
  unfolding forward
  single-raw z = alone-is d type (field_at d t) s ∙ ap alone (field-component d p 0 t z)

  single-own : f ≡ judge d false (rule_of rules.value) (component_at d t)
  unfolding components_fault place_fault
  single-own = c.told ∙ then-zero (judge d false (rule_of rules.value) (component_at d t))

  single-told : r ≡ (shape_fault d 0 (field_at d t) then f)
  single-told = g ∙ ap (λ x. x then f) (e ∙ shape-first d p t h l c.short c.long more c.more)

  pub single-is : rules_of rules ≡ value_rules type → ValueOf d type (field_at d t) r l (ltb 0 h) false
  unfolding rules_of beside empty
  single-is v = record {
    told = single-told ∙ sym (value-told d type (field_at d t) 0 f (rw s)
        (λ z. ap (parts_fault d (value_rules type)) (single-raw z) ∙ alone-fault d (value_rules type) (component_at d t) ∙ rw (← v) (sym single-own)));
    long = c.long;
    filled = λ z. filled_is h (component_at d t) c.short ∙ ap (λ q. filled q.value) (sym (single-raw (unrepeated d 0 (field_at d t) f (sym single-told ∙ z))));
    beside = λ z. ap beside (sym (single-raw (unrepeated d 0 (field_at d t) f (sym single-told ∙ z))));
  }

-- ---- SN
-- one component on, the rest of the field is as long as it was
rest-long-on : (t u : List ℕ) (d : Delims) → Proper d → met u ≡ next d (met t) → length t - length u + length (field_at d u) ≡ length (field_at d t)
unfolding forward
rest-long-on t u d p e =
    omega (arith, forward-long d p 1 (met t), length-met t, length-met u, ap length e, next-within t u d p e, ap (λ m. length (until (is_byte d.field) m)) e)

-- the joiner and the second number
module _ (t u : List ℕ) (d : Delims) (rules : Parts) (a f g h k l n o q r : ℕ) (more : Bool) (p : Proper d) (x : JudgedOf d (May rules.join) t f n)
    (e : met u ≡ next d (met t)) (c : ComponentsOf d (May rules.second ∷ []) u more g h l) where
  last-second : component_from d (met t) 1 ≡ component_at d u
  unfolding forward
  last-second = ap (until (ends d)) (sym e)

  pub last-is : a ≡ (22 when more then 23 when ltb h l) → ((w : Four (List ℕ)) → ltb 0 n ≡ filled w.join → ltb 0 h ≡ filled w.second → o ≡ (25 when unjoined w))
      → q ≡ (g then o) → r ≡ (f then q) → LastOf d (rules_of rules) t a r (length t - length u + l) (ltb 0 n) (ltb 0 h)
  unfolding joined_fault rules_of forward components_fault place_fault
  last-is ea eo eq er = record {
    shape = ea ∙ shape-first d p u h l c.short c.long more c.more ∙ shape-forward d p 1 0 t u (sym e);
    told = let j = eo (last_two (component_at d t) (component_at d u)) (filled_is n (component_at d t) x.long) (filled_is h (component_at d u) c.short) in
        rw last-second (cc (x.told, c.told, then-zero (judge d false (rule_of rules.second) (component_at d u))));
    long = rw c.long (rest-long-on t u d p e);
    join = filled_is n (component_at d t) x.long;
    number = filled_is h (component_at d u) c.short ∙ ap filled (sym last-second);
  }

-- the number
module _ (t u : List ℕ) (d : Delims) (rules : Parts) (f g i l n r s : ℕ) (compared a b z : Bool) (p : Proper d) (x : JudgedOf d (May rules.value) t f n)
    (e : met u ≡ next d (met t)) (w : LastOf d (rules_of rules) u s g l a b)
    (ez : (c : Four (List ℕ)) → compared ≡ filled c.compare → a ≡ filled c.join → b ≡ filled c.second → z ≡ beside c) where
  on-next : (n : ℕ) → component_from d (met t) (suc n) ≡ component_from d (met u) n
  unfolding forward
  on-next n = ap (λ m. component_from d m n) (sym e)

  number-beside : (compare : List ℕ) → compared ≡ filled compare → z ≡ beside (four_from d compare (met t))
  number-beside compare h =
      ez (four_from d compare (met t)) h (w.join ∙ ap filled (sym (on-next 0))) (w.number ∙ ap filled (sym (on-next 1)))

  pub number_is_lem : i ≡ (20 when (z && not (ltb 0 n)) then f) → r ≡ (i then g)
      → NumberOf d (rules_of rules) compared t s r (length t - length u + l) (ltb 0 n) z
  unfolding number_fault rules_of place_fault forward
  number_is_lem ei er =
      let v : List ℕ = component_at d t in
      let y : ltb 0 n ≡ filled v = filled_is n v x.long in
      let j : i ≡ judge d z (rule_of rules.value) v = ei ∙ rw (y, x.told) (sym (required-is z d (rule_of rules.value) v)) in
      record {
        shape = w.shape ∙ shape-forward d p 2 1 t u (ap (next d) (sym e));
        told = λ compare h. let q = number-beside compare h in cc (w.told, on-next 0, on-next 1);
        long = rw w.long (rest-long-on t u d p e);
        filled = y;
        beside = number-beside;
      }

-- the four
abbrev four_in : Delims → List ℕ → Four (List ℕ)
four_in d m = record { compare = component_from d m 0; value = component_from d m 1; join = component_from d m 2; second = component_from d m 3 }

four_is : (d : Delims) → Proper d → (type t : List ℕ) → is_sn type ≡ true → has d.repetition (field_at d t) ≡ false → raw_four d type (field_at d t) ≡ four_in d (met t)
unfolding raw_four
four_is d p type t s h =
    rw s (cc (field-component d p 0 t h, field-component d p 1 t h, field-component d p 2 t h, field-component d p 3 t h))

parts_are : (d : Delims) (r : Four Val.Rule) (c : Four (List ℕ)) → (judge d false r.compare c.compare then number_fault d r c) ≡ parts_fault d r c
unfolding number_fault joined_fault parts_fault unjoined
parts_are d r c = refl

module _ (t u : List ℕ) (d : Delims) (rules : Parts) (f g i l n r s : ℕ) (y z : Bool) (p : Proper d) (x : JudgedOf d (May rules.compare) t f n)
    (e : met u ≡ next d (met t)) (w : NumberOf d (rules_of rules) (ltb 0 n) u s g l y z) (ei : i ≡ (f then g)) (er : r ≡ (s then i)) where
  four-on : four_from d (component_at d t) (met u) ≡ four_in d (met t)
  unfolding forward
  four-on = ap (four_from d (component_at d t)) e

  compared_is : ltb 0 n ≡ filled (component_at d t)
  compared_is = filled_is n (component_at d t) x.long

  numbers-own : i ≡ parts_fault d (rules_of rules) (four_in d (met t))
  unfolding rules_of place_fault forward
  numbers-own = ei ∙ rw (x.told, w.told (component_at d t) compared_is, four-on) (parts_are d (rules_of rules) (four_in d (met t)))

  numbers-told : r ≡ (shape_fault d 3 (field_at d t) then parts_fault d (rules_of rules) (four_in d (met t)))
  unfolding forward
  numbers-told = er ∙ rw (w.shape, shape-forward d p 3 2 t u (ap (λ m. next d (next d m)) (sym e)), numbers-own)

  module _ (type : List ℕ) (sn : is_sn type ≡ true) where
    numbers-raw : r ≡ 0 → raw_four d type (field_at d t) ≡ four_in d (met t)
    numbers-raw q = four_is d p type t sn (unrepeated d 3 (field_at d t) (parts_fault d (rules_of rules) (four_in d (met t))) (sym numbers-told ∙ q))

    pub numbers-is : rules_of rules ≡ value_rules type → ValueOf d type (field_at d t) r (length t - length u + l) y z
    unfolding forward
    numbers-is v = record {
      told = numbers-told ∙ sym (value-told d type (field_at d t) 3 (parts_fault d (rules_of rules) (four_in d (met t))) (rw sn) (λ q. rw (four_is d p type t sn q, v)));
      long = rw w.long (rest-long-on t u d p e);
      filled = λ q. w.filled ∙ ap (λ c. filled c.value) (four-on ∙ sym (numbers-raw q));
      beside = λ q. w.beside (component_at d t) compared_is ∙ ap beside (four-on ∙ sym (numbers-raw q));
    }

-- ---- by OBX-2's word
pub value-is : (d : Delims) (word f : List ℕ) (fault n : ℕ) (y z v b : Bool) (rules : Four Val.Rule) → v ≡ same word (83 ∷ 78 ∷ []) → v ≡ b → rules ≡ value_rules word
    → ((type : List ℕ) → is_sn type ≡ b → rules ≡ value_rules type → ValueOf d type f fault n y z) → ValueOf d word f fault n y z
unfolding bytes
value-is d word f fault n y z v b rules e h q g = g word (sym e ∙ h) q

-- its rules, none for more than 256 bytes
longest : Val.Rule → ℕ
longest Val.time = 0
longest Val.date = 0
longest Val.numeric = 0
longest (Val.text n) = n
longest (Val.digits n) = n
longest (Val.capitals n) = n
longest (Val.words w) = 0

small_is : (rule : Rule) → longest (rule_of rule) ≤ 256 → Small rule
unfolding longest rule_of Small
small_is Time h = tt
small_is Date h = tt
small_is Number h = tt
small_is (Text n) h = h
small_is (Digits n) h = h
small_is (Capitals n) h = h
small_is (OneOf w) h = tt

abbrev Short : Four Val.Rule → Type 0
Short r = (longest r.compare ≤ 256) × (longest r.value ≤ 256) × (longest r.join ≤ 256) × (longest r.second ≤ 256)

parts-short : (word : List ℕ) → Short (value_rules word)
unfolding longest value_rules
parts-short word =
    cases (is_sn word)
    (λ e. rw e (omega arith, omega arith, omega arith, omega arith))
    (λ e. cases (same word (bytes "NM"))
    (λ f. rw (e, f) (omega arith, omega arith, omega arith, omega arith))
    (λ f. rw (e, f) (omega arith, omega arith, omega arith, omega arith)))

pub parts-small : (rules : Parts) (word : List ℕ) → rules_of rules ≡ value_rules word → SmallParts rules
unfolding rules_of
parts-small rules word e =
    let h = subst Short (sym e) (parts-short word) in
    (small_is rules.compare h.0, small_is rules.value h.1, small_is rules.join h.2, small_is rules.second h.3)
