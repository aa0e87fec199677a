-- Demand 3 on the whole case and its sex Q variant. Assumes nothing.
use mathlib.Core.Path.{◌≡◌}
use mathlib.Core.Bool.{true}
use mathlib.Core.List.{List, []}
use Prim.Native.Nat.{ℕ}
use Rattle.rules.specs.WholeCase.{whole_message, sex_q, sex_qskipped}
use Rattle.rules.specs.Demanded.{newer_with, unread_text}
use Rattle.unread.specs.Differs.{Differs}
use Rattle.unread.specs.Edits.{Change, changed_all, unread_all}
use Rattle.unread.specs.Same.{SameAnswers}
use Rattle.unread.specs.Instance.{changes, newer, becomes, all-unread, both-keep, skipped, skipped-unread, sex_q-keep, puts, puts-become, puts-unread, puts-keep}
use Rattle.unread.proofs.Edits.{edits}
use Rattle.unread.proofs.Demand3.{demand3}

-- changes told by their places
changes-differ : (cs : List Change) (m n : List ℕ) → changed_all cs m ≡ n → unread_all cs m ≡ true → Differs m n
changes-differ cs m n e u = demand3.edits m n (rw e at (edits cs m u))

pub newer-differs : Differs whole_message newer
newer-differs = changes-differ changes whole_message newer becomes all-unread

pub newer-same : SameAnswers whole_message newer
newer-same = demand3.unseen whole_message newer both-keep.0 both-keep.1 newer-differs

pub skipped-differs : Differs sex_q sex_qskipped
skipped-differs = changes-differ skipped sex_q sex_qskipped skipped-unread.0 skipped-unread.1

pub skipped-same : SameAnswers sex_q sex_qskipped
skipped-same = demand3.unseen sex_q sex_qskipped sex_q-keep.0 sex_q-keep.1 skipped-differs

pub puts-differ : Differs (newer_with []) (newer_with unread_text)
puts-differ = changes-differ puts (newer_with []) (newer_with unread_text) puts-become puts-unread

pub puts-same : SameAnswers (newer_with []) (newer_with unread_text)
puts-same = demand3.unseen (newer_with []) (newer_with unread_text) puts-keep.0 puts-keep.1 puts-differ
