-- The words of a refusal, and the place that is told before them. THE TABLE of the words.
use Rattle.std.specs.Prelude.{Bool, true, false, cond, List, [], ◌∷◌, ℕ, eqb}
use Prim.Native.String.{String}
use Rattle.rules.specs.declared.Kind.{Kind}
use Rattle.rules.specs.declared.Kind.TheVariants.{TooLong, Header, Bytes, Segment, TooMany, Order, Missing, Null, Repeated, Escape, Long, Value, Status, Differs, NoOrdinal, Zero, SheetTooLong, SheetBytes, Key, LineValue, Overflow, Room}
use Rattle.rules.specs.declared.Name.{Name}
use Rattle.rules.specs.Told as Told
use Rattle.rules.specs.Lists.{all}
use Rattle.rules.specs.Value.{Rule, time, date, numeric, text, digits, capitals, words}
use Rattle.rules.specs.Places.{Place, Form, charset, names, value, Field, reads, closed, places}
use Rattle.csv_rules.specs.declared.FileFault.{FileFault}
use Rattle.csv_rules.specs.declared.FileFault.TheVariants.{Quoting, Columns, Unconverted, HeaderDiffers, Returns}
use Rattle.words.specs.declared.Where.{Where}
use Rattle.words.specs.declared.Where.TheVariants.{Nowhere, AtSpot, AtSegment, AtLine, AtField}
use Rattle.words.specs.declared.Breach.{Breach}
use Rattle.words.specs.declared.Breach.TheVariants.{NoTime, NoDate, NoDigits, NoWord, NoCode, NoCharset, NoValue, Unsaid}

-- ---- the table: the place that is told, and the words
pub record Saying : Type 0 where
  pub tells : Where
  pub words : String

infix 5 ◌says◌
abbrev pub ◌says◌ : Where → String → Saying
p says w = record { tells = p; words = w }

unfoldable pub saying : Kind → Saying
saying TooLong = Nowhere says "the message has more than 32,768 bytes"
saying Header = Nowhere says "the first nine bytes are no header"
saying Bytes = AtSpot says "a byte that is not allowed here, or a shift that is broken off"
saying Segment = AtSpot says "no segment: a bad name, more than 4,096 bytes, or no 0D at its end"
saying TooMany = Nowhere says "the message has more than 512 segments"
saying Order = AtSegment says "out of order, or missing"
saying Missing = AtField says "required, but empty"
saying Null = AtField says "exactly \"\""
saying Repeated = AtField says "a repetition, where one value is read"
saying Escape = AtField says "a bare subcomponent separator, a bad escape, or a component too many"
saying Long = AtField says "too long"
saying Value = AtField says "breaks its rule"
saying Status = AtField says "the value does not fit the status"
saying Differs = AtField says "not the order number of the OBR before it"
saying NoOrdinal = Nowhere says "no known segment has this ordinal"
saying Zero = Nowhere says "fields and components are counted from 1"
saying SheetTooLong = Nowhere says "the sheet has more than 65,536 bytes"
saying SheetBytes = AtSpot says "a byte that is not allowed here, a shift that is broken off, or no 0A at the end"
saying Key = AtLine says "not the key that must stand here"
saying LineValue = AtLine says "the value breaks its rule"
saying Overflow = Nowhere says "the message would have more than 32,768 bytes or 512 segments"
saying Room = Nowhere says "the lent buffer is too short"

-- ---- 25 says more of a field that the table of read places lists
unfoldable pub breach_words : Breach → String
breach_words NoTime = "not a time that exists"
breach_words NoDate = "not a date that exists"
breach_words NoDigits = "not the digits that it takes"
breach_words NoWord = "not one of its words"
breach_words NoCode = "not the code and coding system that it takes"
breach_words NoCharset = "not the repetition separator and ISO IR87"
breach_words NoValue = "not a value of its type"
breach_words Unsaid = (saying Value).words

-- a text has no rule but its length, which is 24; no field is a number or capitals alone
abbrev pub rule_breach : Rule → Breach
rule_breach time = NoTime
rule_breach date = NoDate
rule_breach numeric = Unsaid
rule_breach (text n) = Unsaid
rule_breach (digits n) = NoDigits
rule_breach (capitals n) = Unsaid
rule_breach (words ws) = NoWord

-- the names of PID-5 are texts
abbrev pub form_breach : Form → Breach
form_breach charset = NoCharset
form_breach names = Unsaid
form_breach value = NoValue

-- one component has its rule's words; several have those of words if they are words alone, else they are a code and its coding system
abbrev pub is_words : Rule → Bool
is_words time = false
is_words date = false
is_words numeric = false
is_words (text n) = false
is_words (digits n) = false
is_words (capitals n) = false
is_words (words ws) = true

unfoldable pub read_breach : List Place → Breach
read_breach [] = Unsaid
read_breach (p ∷ []) = rule_breach p.rule
read_breach (p ∷ q ∷ ps) = cond (all (λ (r : Place). is_words r.rule) (p ∷ q ∷ ps)) NoWord NoCode

unfoldable pub breach_in : List Field → ℕ → Breach
breach_in [] f = Unsaid
breach_in (reads n ps ∷ fs) f = cond (eqb n f) (read_breach ps) (breach_in fs f)
breach_in (closed n k ∷ fs) f = cond (eqb n f) (form_breach k) (breach_in fs f)

unfoldable pub breach_of : Name → ℕ → Breach
breach_of n f = breach_in (places n) f

-- the words of a kind
unfoldable pub words_of : Kind → Breach → String
words_of k b = cond (eqb (Told.number k) 25) (breach_words b) (saying k).words

-- ---- 50 to 54
unfoldable pub fault_words : FileFault → String
fault_words Quoting = "an item is not quoted as it must be, or a line does not end in CR LF"
fault_words Columns = "no version or heading line, a bad column count, or a row with another count"
fault_words Unconverted = "a byte that cannot be converted, as half-width kana or a byte below 20"
fault_words HeaderDiffers = "a patient key or the class differs from a row before with this result number"
fault_words Returns = "a result number that comes back after another"
