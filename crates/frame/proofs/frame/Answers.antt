use borrow.Author.Rules.{rules}
use mathlib.Core.Path.{◌≡◌, ap, ◌∙◌}
use Rattle.std.specs.declared.option.Option.TheVariants.{Some, None}
use Rattle.std.specs.declared.result.Result.TheVariants.{Err}
use Rattle.std.specs.Result.{result_ok}
use Rattle.std.proofs.lemmas.Result.{err_from_is_err_and}
use Rattle.rules.specs.declared.Kind.TheVariants.{Segment}
use Rattle.header.proofs.Laws.{header-long}
use Rattle.frame.proofs.Laws.{frame-13, frame-close, sound-by}
use Rattle.frame.proofs.frame.Goals as goal

pub delims-d-requires : goal.delims-d-requires
delims-d-requires c = search (header-long, rules)

pub returns-in_err-seen-clause-result_value : goal.returns-in_err-seen-clause-result_value
returns-in_err-seen-clause-result_value c =
    let p = err_from_is_err_and c.from_residual.result c.from_residual.ensures.1 in
    let q : c.pass.result ≡ None = c.ok_or.ensures.ok_part ∙ ap result_ok c.in_err-seen.was in
    let k : c.in_err-seen.field-0.0 ≡ Segment = cc (c.in_err-seen.was, rw q at c.ok_or.ensures.value) in
    frame-13 _ _ c.if-m-gt32768.false _ c.is_header.ensures c.if-not-is_header.false _ c.keeps.ensures c.if-not-keeps.false _ c.delims-d.ensures _ c.pass.ensures.value q (p.1 ∙ ap Err (p.2 ∙ ap (λ k. record { kind = k; segment = 0; field = 0 }) k))

pub returns : goal.returns
returns c =
    let q : c.pass.result ≡ Some c.in_ok-seen.seen = c.ok_or.ensures.ok_part ∙ ap result_ok c.in_ok-seen.was in
    let v = frame-close _ _ c.if-m-gt32768.false _ c.is_header.ensures c.if-not-is_header.false _ c.keeps.ensures c.if-not-keeps.false _ c.delims-d.ensures _ c.pass.ensures.value _ q c.close.ensures in
    record { result_value = v; sound = sound-by _ _ v }
