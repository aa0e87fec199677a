-- "Header", "Segments", "Order"
use Rattle.std.specs.Prelude.{Bool, true, false, cond, ◌&&◌, ◌||◌, List, [], ◌∷◌, ℕ, suc, ◌+◌, leb, eqb, length, get_or}
use Rattle.rules.specs.declared.Delims.{Delims}
use Rattle.rules.specs.declared.Name.{Name}
use Rattle.rules.specs.declared.Name.TheVariants.{Msh, Pid, Pv1, Spm, Obr, Orc, Obx, Other}
use Rattle.rules.specs.Lists.{bytes, empty, starts, all, any, has, distinct, split, all_but_last, last, since}
use Rattle.rules.specs.Shift.{within, met}

-- "In order they are field, component, repetition, escape, subcomponent."
unfoldable pub delims_of : List ℕ → Delims
delims_of m =
    record { field = get_or m 3 0; component = get_or m 4 0; repetition = get_or m 5 0; escape = get_or m 6 0; sub = get_or m 7 0 }

abbrev pub five_of : Delims → List ℕ
five_of d = d.field ∷ d.component ∷ d.repetition ∷ d.escape ∷ d.sub ∷ []

-- "Each is one of `! # % & * ; ? @ \ ^ | ~`."
abbrev pub twelve : List ℕ
twelve = bytes "!#%&*;?@\\^|~"

-- "five different delimiters"
unfoldable pub delims_ok : Delims → Bool
delims_ok d = all (λ (b : ℕ). has b twelve) (five_of d) && distinct (five_of d)

-- 11. "The first nine bytes are `MSH`, five different delimiters and the first of these again."
unfoldable pub header_ok : List ℕ → Bool
header_ok m = leb 9 (length m) && starts (bytes "MSH") m && delims_ok (delims_of m) && eqb (get_or m 8 0) (delims_of m).field

-- 13. "Each ends in 0D, the last too. A segment has at most 4,096 bytes without its 0D"
unfoldable pub segments : List ℕ → List (List ℕ)
segments m = all_but_last (split 0x0D m)

-- of a part of a message, the bytes so far of the segment in which it ends
abbrev pub here : List ℕ → List ℕ
here p = since 0x0D p

abbrev pub capital : ℕ → Bool
capital b = within 65 90 b

abbrev pub digit : ℕ → Bool
digit b = within 48 57 b

abbrev pub capital_or_digit : ℕ → Bool
capital_or_digit b = capital b || digit b

-- "A name is a capital and two capitals or digits, followed by the field separator or the end."
unfoldable pub name_ok : ℕ → List ℕ → Bool
name_ok bar s =
    leb 3 (length s) && capital (get_or s 0 0) && capital_or_digit (get_or s 1 0) && capital_or_digit (get_or s 2 0)
    && (eqb (length s) 3 || eqb (get_or s 3 0) bar)

unfoldable pub segments_ok : ℕ → List ℕ → Bool
segments_ok bar m = empty (last (split 0x0D m)) && all (λ (s : List ℕ). leb (length s) 4096 && name_ok bar s) (segments m)

-- "The known names are MSH PID PV1 SPM OBR ORC OBX. Others are skipped."
unfoldable pub known_names : List Name
known_names = Msh ∷ Pid ∷ Pv1 ∷ Spm ∷ Obr ∷ Orc ∷ Obx ∷ []

unfoldable pub spelling : Name → List ℕ
spelling Msh = bytes "MSH"
spelling Pid = bytes "PID"
spelling Pv1 = bytes "PV1"
spelling Spm = bytes "SPM"
spelling Obr = bytes "OBR"
spelling Orc = bytes "ORC"
spelling Obx = bytes "OBX"
spelling Other = []

-- the first of some names that a segment starts with
unfoldable pub name_among : List Name → List ℕ → Name
name_among [] s = Other
name_among (n ∷ ns) s = elim (starts (spelling n) s) [ true ↦ n | false ↦ name_among ns s ]

unfoldable pub name_of : List ℕ → Name
name_of s = name_among known_names s

abbrev pub rank : Name → ℕ
rank Msh = 1
rank Pid = 2
rank Pv1 = 3
rank Spm = 4
rank Obr = 5
rank Orc = 6
rank Obx = 7
rank Other = 0

abbrev pub is : Name → Name → Bool
is a b = eqb (rank a) (rank b)

-- a known segment: its name, where it starts in the message, and its bytes as they are met
pub record Known : Type 0 where
  pub name : Name
  pub start : ℕ
  pub body : List ℕ

unfoldable pub known_from : ℕ → List (List ℕ) → List Known
known_from at [] = []
known_from at (s ∷ ss) =
    let rest = known_from (at + suc (length s)) ss in
    let here : Known = record { name = name_of s; start = at; body = met s } in
    cond (is (name_of s) Other) rest (here ∷ rest)

-- "Ordinals count known segments only, from 1."
unfoldable pub known : List ℕ → List Known
known m = known_from 0 (segments m)

-- "MSH PID PV1, then one or more specimens: SPM and one or more orders: OBR ORC and one or more OBX."
-- What may follow each name; `Other` stands for the start.
abbrev pub after : Name → List Name
after Other = Msh ∷ []
after Msh = Pid ∷ []
after Pid = Pv1 ∷ []
after Pv1 = Spm ∷ []
after Spm = Obr ∷ []
after Obr = Orc ∷ []
after Orc = Obx ∷ []
after Obx = Obx ∷ Obr ∷ Spm ∷ []

-- where some names have led: the last of them
pub record Reached : Type 0 where
  pub last : Name

abbrev pub start : Reached
start = record { last = Other }

unfoldable pub past : Reached → Name → Reached
past a b = record { last = b }

unfoldable pub may_follow : Reached → Name → Bool
may_follow a b = any (is b) (after a.last)

unfoldable pub may_end : Reached → Bool
may_end a = is a.last Obx

-- 15. The ordinal of the first name out of order, "at an early end, the known count plus 1"; 0 where there is none. The names before have
-- led to a; the first has the ordinal i.
unfoldable pub order_fault : Reached → ℕ → List Name → ℕ
order_fault a i [] = cond (may_end a) 0 i
order_fault a i (b ∷ bs) = elim (may_follow a b) [ true ↦ order_fault (past a b) (suc i) bs | false ↦ i ]

-- how many x there are with the name g, where there were n before it: counted anew at each r
unfoldable pub counting : Name → Name → ℕ → Name → ℕ
counting x r n g = cond (is g x) (suc n) (cond (is g r) 0 n)

-- to unfold this name is to unfold the definitions above
unfoldable pub defined : Unit {0}
unfolding delims_of delims_ok header_ok segments name_ok segments_ok known_names spelling name_among name_of known_from known past may_follow may_end order_fault counting
defined = tt
