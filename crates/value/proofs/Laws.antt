-- Laws of the value rules, and for each function the set of those that its proof searches. Assumes nothing.
use Prim.Native.String.{String}
use Prim.Native.Nat.{ℕ, suc, ◌-◌, ◌≤◌, ◌<◌}
use mathlib.Core.Path.{◌≡◌, refl, sym, ap, ◌∙◌}
use mathlib.Core.List.{List, [], ◌∷◌, foldl}
use mathlib.Core.Bool.{Bool, true, false, cond, not, ◌&&◌, ◌||◌}
use borrow.Author.Tests.{le-leb, lt-leb}
use lib.Dec.{eqb, ltb}
use lib.ListN.{length}
use Rattle.rules.specs.Lists.{bytes, empty, filled, all, any, same, split, is_one_of}
use Rattle.std.specs.Result.{is_ok, result_and}
use Rattle.std.specs.declared.result.Result.{Result}
use Rattle.std.specs.declared.result.Result.TheVariants.{Ok, Err}
use Rattle.rules.specs.declared.Kind.{Kind}
use Rattle.rules.specs.declared.Kind.TheVariants.{TooLong, Header, Bytes, Segment, TooMany, Order, Missing, Null, Repeated, Escape, Long, Value, Status, Differs, NoOrdinal, Zero, SheetTooLong, SheetBytes, Key, LineValue, Overflow, Room}
use Rattle.rules.specs.Told.{◌then◌, number}
use Rattle.rules.specs.Frame.{capital_or_digit}
use Rattle.rules.specs.Value as Val
use Rattle.rules.specs.Places.{Four, value_rules}
use Rattle.rules.specs.Judge.{agrees, beside, unjoined}
use Rattle.rules.proofs.Logic.{cases, never, or_assoc, or-false}
use Rattle.rules.proofs.Lists.{empty-zero, filled-some, any-cons}
use Rattle.value.specs.Rules.{text_of, rule_of, rules_of, fault_no}
use Rattle.value.specs.declared.Words.{Words}
use Rattle.value.specs.declared.Words.TheVariants.{Blank, Comparators, Joiners}
use Rattle.value.specs.declared.Rule.{Rule}
use Rattle.value.specs.declared.Rule.TheVariants.{Time, Date, Number, Text, Digits, Capitals, OneOf}
use Rattle.value.specs.declared.Parts.{Parts}

-- ---- what is broken
-- no refusal has the number 0
pub number-some : (k : Kind) → number k ≡ suc (number k - 1)
number-some TooLong = refl
number-some Header = refl
number-some Bytes = refl
number-some Segment = refl
number-some TooMany = refl
number-some Order = refl
number-some Missing = refl
number-some Null = refl
number-some Repeated = refl
number-some Escape = refl
number-some Long = refl
number-some Value = refl
number-some Status = refl
number-some Differs = refl
number-some NoOrdinal = refl
number-some Zero = refl
number-some SheetTooLong = refl
number-some SheetBytes = refl
number-some Key = refl
number-some LineValue = refl
number-some Overflow = refl
number-some Room = refl

module _ {A : Type 0} where
  pub fine-zero : (r : Result A Kind) → is_ok r ≡ true → fault_no r ≡ 0
  unfolding fault_no
  fine-zero (Ok a) h = refl
  fine-zero (Err k) h = never (sym h)

  pub fault-some : (r : Result A Kind) → is_ok r ≡ false → fault_no r ≡ suc (fault_no r - 1)
  unfolding fault_no
  fault-some (Ok a) h = never h
  fault-some (Err k) h = number-some k

-- the earlier of two
earlier : {A B : Type 0} (a : Result A Kind) (b : Result B Kind) → fault_no (result_and a b) ≡ (fault_no a then fault_no b)
unfolding fault_no
earlier (Ok a) b = refl
earlier (Err k) b = rw (number-some k)

pub and-then : {A B : Type 0} (a : Result A Kind) (b r : Result B Kind) → r ≡ result_and a b → fault_no r ≡ (fault_no a then fault_no b)
and-then a b r e = ap fault_no e ∙ earlier a b

-- ---- at most n capitals or digits
pub capitals-more : (v : List ℕ) (n : ℕ) → n < length v → false ≡ Val.holds (Val.capitals n) v
unfolding Val.holds
capitals-more v n h = cc (lt-leb (length v) n h)

pub capitals-all : (v : List ℕ) (n : ℕ) (r : Bool) → length v ≤ n → r ≡ all capital_or_digit v → r ≡ Val.holds (Val.capitals n) v
unfolding Val.holds
capitals-all v n r h e = cc (le-leb (length v) n h)

pub ruleset capitals_laws = (capitals-more, capitals-all)

-- ---- one of some words
or-chain : {A : Type 0} (p : A → Bool) (q : Bool) (ws : List A) → (q || any p ws) ≡ foldl (λ (r : Bool) (w : A). r || p w) q ws
unfolding any
or-chain p q [] = or-false q
or-chain p q (w ∷ ws) = ap (λ (r : Bool). q || r) (any-cons p w ws) ∙ or_assoc q (p w) (any p ws) ∙ or-chain p (q || p w) ws

-- as the code compares them, one to six of them
module _ (words : String) (v : List ℕ) where
  words_are : (a : List ℕ) (more : List (List ℕ)) → split 0x20 (bytes words) ≡ a ∷ more → foldl (λ (r : Bool) (w : List ℕ). r || same v w) (same v a) more ≡ is_one_of words v
  unfolding is_one_of
  words_are a more e = sym (ap (any (same v)) e ∙ any-cons (same v) a more ∙ or-chain (same v) (same v a) more)

  module _ (a : List ℕ) (p : Bool) (ep : p ≡ same v a) where
    pub one_word : split 0x20 (bytes words) ≡ a ∷ [] → p ≡ is_one_of words v
    one_word e = rw ep (words_are a [] e)

    module _ (b : List ℕ) (q : Bool) (eq : q ≡ same v b) where
      pub two-words : split 0x20 (bytes words) ≡ a ∷ b ∷ [] → (p || q) ≡ is_one_of words v
      two-words e = rw (ep, eq) (words_are a (b ∷ []) e)

      module _ (c : List ℕ) (r : Bool) (er : r ≡ same v c) where
        pub three-words : split 0x20 (bytes words) ≡ a ∷ b ∷ c ∷ [] → ((p || q) || r) ≡ is_one_of words v
        three-words e = rw (ep, eq, er) (words_are a (b ∷ c ∷ []) e)

        module _ (d : List ℕ) (s : Bool) (es : s ≡ same v d) where
          pub four-words : split 0x20 (bytes words) ≡ a ∷ b ∷ c ∷ d ∷ [] → (((p || q) || r) || s) ≡ is_one_of words v
          four-words e = rw (ep, eq, er, es) (words_are a (b ∷ c ∷ d ∷ []) e)

          module _ (f : List ℕ) (t : Bool) (et : t ≡ same v f) where
            pub five-words : split 0x20 (bytes words) ≡ a ∷ b ∷ c ∷ d ∷ f ∷ [] → ((((p || q) || r) || s) || t) ≡ is_one_of words v
            five-words e = rw (ep, eq, er, es, et) (words_are a (b ∷ c ∷ d ∷ f ∷ []) e)

            pub six-words : (g : List ℕ) (u : Bool) → u ≡ same v g → split 0x20 (bytes words) ≡ a ∷ b ∷ c ∷ d ∷ f ∷ g ∷ [] → (((((p || q) || r) || s) || t) || u) ≡ is_one_of words v
            six-words g u eu e = rw (ep, eq, er, es, et, eu) (words_are a (b ∷ c ∷ d ∷ f ∷ g ∷ []) e)

pub ruleset words_laws = (two-words, three-words)

-- ---- words and rules by their names
pub word_is : (w x : Words) (v : List ℕ) (r : Bool) → w ≡ x → r ≡ is_one_of (text_of x) v → r ≡ is_one_of (text_of w) v
word_is w x v r e h = cc

pub holds_is : (rule x : Rule) (v : List ℕ) (r : Bool) → rule ≡ x → r ≡ Val.holds (rule_of x) v → r ≡ Val.holds (rule_of rule) v
holds_is rule x v r e h = cc

pub long-above : (rule x : Rule) (most n : ℕ) → rule ≡ x → ((v : List ℕ) → Val.too_long (rule_of x) v ≡ ltb most (length v))
    → (v : List ℕ) → length v ≡ n → ltb most n ≡ Val.too_long (rule_of rule) v
long-above rule x most n e h v l = cc (h v)

pub long-other : (rule : Rule) (n : ℕ) → (rule ≡ Number → ⊥) → ((most : ℕ) → rule ≡ Text most → ⊥) → (v : List ℕ) → length v ≡ n → false ≡ Val.too_long (rule_of rule) v
unfolding rule_of Val.too_long
long-other Time n f g v l = refl
long-other Date n f g v l = refl
long-other Number n f g v l = absurd (f refl)
long-other (Text most) n f g v l = absurd (g most refl)
long-other (Digits m) n f g v l = refl
long-other (Capitals m) n f g v l = refl
long-other (OneOf w) n f g v l = refl

pub ruleset too_long_laws = (long-above, long-other)

-- ---- 20, 24, 25
module _ (required : Bool) (rule : Rule) (v : List ℕ) where
  pub fault-missing : length v ≡ 0 → required ≡ true → number Missing ≡ Val.fault required (rule_of rule) v
  unfolding fault_no Val.fault
  fault-missing h e = cc (empty-zero v h)

  pub fault-blank : length v ≡ 0 → required ≡ false → 0 ≡ Val.fault required (rule_of rule) v
  unfolding fault_no Val.fault
  fault-blank h e = cc (empty-zero v h)

  module _ (h : length v ≡ 0 → ⊥) (t : Bool) (e : (u : List ℕ) → length u ≡ length v → t ≡ Val.too_long (rule_of rule) u) where
    pub fault-long : t ≡ true → number Long ≡ Val.fault required (rule_of rule) v
    unfolding fault_no Val.fault
    fault-long y = cc (filled-some v h, e v refl)

    pub fault-none : (q : Bool) → t ≡ false → q ≡ Val.holds (rule_of rule) v → q ≡ true → 0 ≡ Val.fault required (rule_of rule) v
    unfolding fault_no Val.fault
    fault-none q y g z = cc (filled-some v h, e v refl)

    pub fault-value : (q : Bool) → t ≡ false → q ≡ Val.holds (rule_of rule) v → q ≡ false → number Value ≡ Val.fault required (rule_of rule) v
    unfolding fault_no Val.fault
    fault-value q y g z = cc (filled-some v h, e v refl)

pub ruleset fault_of_laws = (fault-missing, fault-blank, fault-long, fault-none, fault-value)

-- ---- OBX-5: its rules, by OBX-2
abbrev blank_but : Rule → Parts
blank_but rule = record { compare = OneOf Blank; value = rule; join = OneOf Blank; second = OneOf Blank }

module _ (kind : List ℕ) (t : Bool) (e : t ≡ same kind (83 ∷ 78 ∷ [])) where
  pub rules-sn : t ≡ true → rules_of (record { compare = OneOf Comparators; value = Number; join = OneOf Joiners; second = Number }) ≡ value_rules kind
  unfolding rules_of rule_of text_of value_rules bytes
  rules-sn h = rw (← e, h)

  module _ (h : t ≡ false) (u : Bool) (f : u ≡ same kind (78 ∷ 77 ∷ [])) where
    pub rules-nm : u ≡ true → rules_of (blank_but Number) ≡ value_rules kind
    unfolding rules_of rule_of text_of value_rules bytes
    rules-nm g = rw (← e, h, ← f, g)

    pub rules-st : u ≡ false → rules_of (blank_but (Text 200)) ≡ value_rules kind
    unfolding rules_of rule_of text_of value_rules bytes
    rules-st g = rw (← e, h, ← f, g)

pub ruleset part_rules_laws = (rules-sn, rules-nm, rules-st)

-- its parts, by which are filled
pub beside_is : (x y z : Bool) (c : Four (List ℕ)) → x ≡ filled c.compare → y ≡ filled c.join → z ≡ filled c.second → (x || y || z) ≡ beside c
unfolding beside
beside_is x y z c ex ey ez = cc

pub unjoined_is : (y z : Bool) (c : Four (List ℕ)) → y ≡ filled c.join → z ≡ filled c.second → (z && not y) ≡ unjoined c
unfolding unjoined
unjoined_is y z c ey ez = rw (ey, ez) (cases (empty c.join) (λ q. cc) (λ q. cc))

-- ---- OBX-11 against OBX-5
module _ (status : List ℕ) (number parts y : Bool) (e : y ≡ is_one_of "F P C" status) where
  pub agrees-filled : y ≡ true → (c : Four (List ℕ)) → number ≡ filled c.value → parts ≡ beside c → number ≡ agrees status c
  unfolding agrees
  agrees-filled h c en ep = rw (sym e ∙ h) en

  pub agrees-empty : y ≡ false → (c : Four (List ℕ)) → number ≡ filled c.value → parts ≡ beside c → (not number && not parts) ≡ agrees status c
  unfolding agrees
  agrees-empty h c en ep = rw (sym e ∙ h) (cases (empty c.value) (λ q. cc) (λ q. cc))

pub ruleset agrees_laws = (three-words, agrees-filled, agrees-empty)
