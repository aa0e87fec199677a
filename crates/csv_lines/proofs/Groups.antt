-- The lines of a row's groups, one after another. Assumes nothing.
use mathlib.Core.Path.{◌≡◌, refl, sym, ap, ◌∙◌}
use mathlib.Core.Bool.{Bool, true, false, not}
use mathlib.Core.List.{List, [], ◌∷◌, ◌++◌}
use Prim.Native.Nat.{ℕ, ◌≤◌}
use native.Mathlib.Omega.{arith}
use borrow.Author.Tests.{lt-leb, not-true, not-false}
use Rattle.rules.specs.declared.Name.TheVariants.{Pid, Pv1, Spm, Obr, Obx}
use Rattle.rules.specs.Lists.{bytes, all, ended}
use Rattle.rules.specs.Shift.{within}
use Rattle.rules.specs.Row.{line, lines}
use Rattle.rules.specs.Sheet.{key_of, lines_text}
use Rattle.rules.proofs.Lists.{all_first}
use Rattle.rules.proofs.Split.{ended-append}
use Rattle.csv_rules.specs.Quote.{Items}
use Rattle.csv_rules.specs.Written.{halved}
use Rattle.csv_rules.specs.Kanji.{lead, characters_at, characters, shifted, convertible, converted}
use Rattle.csv_rules.specs.Columns.{value_by, columns, keys}
use Rattle.csv_rules.specs.Raw.{raw_by, raw_agree}
use Rattle.csv_rules.specs.Sheets.{agree}
use Rattle.csv_rules.proofs.Texts.{in_bounds}
use Rattle.csv_rules.proofs.Raw.{plain_codes, plain_how, value-becomes, agree-raw}
use Rattle.reach.proofs.Laws.{adds_then}
use Rattle.csv_keys.specs.declared.How.{How}
use Rattle.csv_keys.specs.declared.How.TheVariants.{Text, UpToBlank, PastBlank, Fifteen, Sex, Class, Form, ValueType}
use Rattle.csv_keys.specs.Keys.{how_of, raw_value, KeyIs}
use Rattle.csv_lines.specs.declared.Lines.{Lines}
use Rattle.csv_lines.specs.Written.{Puts, Writes}
use Rattle.csv_lines.specs.Lines.{line_by, family_and_given, group_lines, some_lines, header_lines, first_lines, next_lines}

-- ---- a value
not-lead : (b : ℕ) → b ≤ 0x7E → lead b ≡ false
not-lead b h = rw (lt-leb 0x81 b (omega arith), lt-leb 0xE0 b (omega arith))

-- plain bytes before a text stay as they are
plain-first : (a b : List ℕ) → all (λ (x : ℕ). within 0x20 0x7E x) a ≡ true → converted (a ++ b) ≡ a ++ converted b
unfolding converted characters characters_at shifted
plain-first [] b h = refl
plain-first (x ∷ a) b h =
    let q = all_first (λ (x : ℕ). within 0x20 0x7E x) x a h in
    rw (not-lead x (in_bounds 0x20 0x7E x q.0).1, characters_at) (ap (λ (s : List ℕ). x ∷ s) (plain-first a b q.1))

plain-how : (h : How) → plain_how (how_of h) ≡ true
unfolding how_of plain_how plain_codes bytes all
plain-how Text = refl
plain-how UpToBlank = refl
plain-how PastBlank = refl
plain-how Fifteen = refl
plain-how Sex = refl
plain-how Class = refl
plain-how Form = refl
plain-how ValueType = refl

-- ---- bytes, and bytes behind them
puts_then : {l m n : Lines} {b c : List ℕ} → Puts l m b → Puts m n c → Puts l n (b ++ c)
puts_then p q = record { same = q.same ∙ p.same; adds = adds_then p.adds q.adds }

pub value-is : (h : How) (row : Items) (n : ℕ) (item lead raw : List ℕ) (l m o : Lines) → all convertible row ≡ true
    → KeyIs item (raw_by (how_of h) row n) lead raw → Puts l m lead → Puts m o (converted (halved false raw)) → Puts l o (value_by (how_of h) row n)
unfolding raw_value
value-is h row n item lead raw l m o c key p q =
    let b = value-becomes (how_of h) row n (plain-how h) c in
    let t = sym (plain-first lead (halved false raw) key.plain) in
    let v : lead ++ converted (halved false raw) ≡ value_by (how_of h) row n = t ∙ ap converted key.is ∙ sym b.is in
    rw v at (puts_then p q)

-- ---- lines
pub line-is : (l m n o : Lines) (k v : List ℕ) → Puts l m k → Puts m n v → Puts n o (0x0A ∷ []) → Writes l o ((k ++ v) ∷ [])
unfolding ended
line-is l m n o k v p q s = let t = puts_then (puts_then p q) s in record { same = t.same; adds = t.adds }

pub lines_then : {l m n : Lines} {ls ms : List (List ℕ)} → Writes l m ls → Writes m n ms → Writes l n (ls ++ ms)
lines_then {ls = ls} {ms} p q = record { same = q.same ∙ p.same; adds = rw (ended-append 0x0A ls ms) (adds_then p.adds q.adds) }

pub by-is : (l m n o : Lines) (c : ℕ) (h : How) (row : Items) (k : List ℕ) → Puts l m k → Puts m n (value_by (how_of h) row c) → Puts n o (0x0A ∷ []) → Writes l o (line_by k h row c)
unfolding line_by
by-is l m n o c h row k p q s = line-is l m n o k (value_by (how_of h) row c) p q s

-- to name it is to compute the lines of a group from the tables
unfoldable pub tables : Unit {0}
unfolding group_lines some_lines header_lines line_by family_and_given lines_text lines line key_of keys columns how_of value_by bytes ended
tables = tt

pub header_is : (l m n o p : Lines) (i one j mode k sent q control : List ℕ)
    → Writes l m ((i ++ one) ∷ []) → Writes m n ((j ++ mode) ∷ []) → Writes n o ((k ++ sent) ∷ []) → Writes o p ((q ++ control) ∷ [])
    → i ≡ bytes "version=" → one ≡ bytes "1" → j ≡ bytes "mode=" → k ≡ bytes "sent=" → q ≡ bytes "control="
    → Writes l p (header_lines mode sent control)
unfolding tables
header_is l m n o p i one j mode k sent q control a b c d ei e1 ej ek eq = rw (ei, e1, ej, ek, eq) at (lines_then a (lines_then b (lines_then c d)))

module _ (row : Items) (l m : Lines) where
  pub visit-is : (k : List ℕ) → Writes l m (line_by k Class row 21) → k ≡ bytes "class=" → Writes l m (group_lines Pv1 row)
  unfolding tables
  visit-is k p e = rw e at p

  module _ (n : Lines) (i j : List ℕ) where
    pub name-is : (c : ℕ) → Writes l m (line_by i UpToBlank row c) → Writes m n (line_by j PastBlank row c) → Writes l n (family_and_given i j row c)
    unfolding family_and_given
    name-is c p q = lines_then p q

    pub birth-is : Writes l m (line_by i Text row 11) → Writes m n (line_by j Sex row 12) → i ≡ bytes "birth=" → j ≡ bytes "sex=" → Writes l n (some_lines Pid 5 2 row)
    unfolding tables
    birth-is p q ei ej = rw (ei, ej) at (lines_then p q)

    pub specimen-is : Writes l m (line_by i Text row 25) → Writes m n (line_by j Text row 24) → i ≡ bytes "specimen=" → j ≡ bytes "collected=" → Writes l n (group_lines Spm row)
    unfolding tables
    specimen-is p q ei ej = rw (ei, ej) at (lines_then p q)

    pub order_is : Writes l m (line_by i Fifteen row 20) → Writes m n (line_by j Text row 30) → i ≡ bytes "order=" → j ≡ bytes "group=" → Writes l n (group_lines Obr row)
    unfolding tables
    order_is p q ei ej = rw (ei, ej) at (lines_then p q)

    module _ (o : Lines) (k : List ℕ) where
      pub item-is : Writes l m (line_by i Text row 31) → Writes m n (line_by j Text row 29) → Writes n o (line_by k ValueType row 36)
          → i ≡ bytes "item=" → j ≡ bytes "name=" → k ≡ bytes "type=" → Writes l o (some_lines Obx 0 3 row)
      unfolding tables
      item-is p q s ei ej ek = rw (ei, ej, ek) at (lines_then p (lines_then q s))

      -- "join and second are blank"
      pub observed-is : Writes l m (line_by i Form row 36) → Writes m n (line_by j Text row 35) → Puts n o k
          → i ≡ bytes "compare=" → j ≡ bytes "value=" → k ≡ bytes "join=\nsecond=\n" → Writes l o (some_lines Obx 3 4 row)
      unfolding tables
      observed-is p q s ei ej ek =
          let t : Writes n o (bytes "join=" ∷ bytes "second=" ∷ []) = record { same = s.same; adds = rw ek at s.adds } in
          rw (ei, ej) at (lines_then p (lines_then q t))

      pub status-is : Writes l m (line_by i Text row 37) → Writes m n (line_by j Text row 41) → Writes n o (line_by k Text row 34)
          → i ≡ bytes "unit=" → j ≡ bytes "flag=" → k ≡ bytes "status=" → Writes l o (some_lines Obx 7 3 row)
      unfolding tables
      status-is p q s ei ej ek = rw (ei, ej, ek) at (lines_then p (lines_then q s))

  pub patient-is : (n o p : Lines) (i j k q t : List ℕ)
      → Writes l m (line_by i Text row 8) → Writes m n (family_and_given j k row 9) → Writes n o (family_and_given q t row 10) → Writes o p (some_lines Pid 5 2 row)
      → i ≡ bytes "patient=" → j ≡ bytes "family=" → k ≡ bytes "given=" → q ≡ bytes "kanafamily=" → t ≡ bytes "kanagiven="
      → Writes l p (group_lines Pid row)
  unfolding tables
  patient-is n o p i j k q t a b c d ei ej ek eq et = rw (ei, ej, ek, eq, et) at (lines_then a (lines_then b (lines_then c d)))

  pub result-is : (n o : Lines) → Writes l m (some_lines Obx 0 3 row) → Writes m n (some_lines Obx 3 4 row) → Writes n o (some_lines Obx 7 3 row) → Writes l o (group_lines Obx row)
  unfolding tables
  result-is n o p q s = lines_then p (lines_then q s)

  pub first-is : (n o p q : Lines) → Writes l m (group_lines Pid row) → Writes m n (group_lines Pv1 row) → Writes n o (group_lines Spm row)
      → Writes o p (group_lines Obr row) → Writes p q (group_lines Obx row) → Writes l q (first_lines row)
  unfolding first_lines
  first-is n o p q a b c d e = lines_then a (lines_then b (lines_then c (lines_then d e)))

-- ---- a row behind another: a specimen anew, an order anew, a result alone
module _ (q row : Items) (l : Lines) (good : all convertible q ≡ true) (fine : all convertible row ≡ true) where
  module _ (s : Bool) (es : s ≡ raw_agree Spm q row) where
    agreed : agree Spm q row ≡ s
    agreed = agree-raw Spm q row good fine ∙ sym es

    pub next-specimen : (m n o : Lines) → not s ≡ true → Writes l m (group_lines Spm row) → Writes m n (group_lines Obr row) → Writes n o (group_lines Obx row) → Writes l o (next_lines q row)
    unfolding next_lines
    next-specimen m n o e p v w = rw (agreed, not-true s e) (lines_then p (lines_then v w))

    module _ (t : Bool) (et : t ≡ raw_agree Obr q row) where
      ordered : agree Obr q row ≡ t
      ordered = agree-raw Obr q row good fine ∙ sym et

      pub next-order : (m n : Lines) → not s ≡ false → not t ≡ true → Writes l m (group_lines Obr row) → Writes m n (group_lines Obx row) → Writes l n (next_lines q row)
      unfolding next_lines
      next-order m n e h v w = rw (agreed, ordered, not-false s e, not-true t h) (lines_then v w)

      pub next-result : (m : Lines) → not s ≡ false → not t ≡ false → Writes l m (group_lines Obx row) → Writes l m (next_lines q row)
      unfolding next_lines
      next-result m e h w = rw (agreed, ordered, not-false s e, not-false t h) w
