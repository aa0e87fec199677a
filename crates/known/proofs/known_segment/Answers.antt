use borrow.Author.Rules.{rules}
use mathlib.Core.Bool.{true, false}
use mathlib.Core.Path.{refl}
use Rattle.known.proofs.Laws.{nothing-within, place-fits, segment-found, segment-other, segment-over, segment-past, segment-starts, segment-zero}
use Rattle.known.proofs.known_segment.Goals as goal
use Rattle.known.proofs.known_segment.Goals.{then-ne+else-left-eq0, else-ne}

pub returns-then-ordinal-eq0 : goal.returns-then-ordinal-eq0
returns-then-ordinal-eq0 c = search (segment-zero, nothing-within, rules)

pub loop-s-init : goal.loop-s-init
loop-s-init c = rw c.into_iter-s-iterator.ensures.into_iter_gives (segment-starts _ _ c.if-ordinal-eq0.false)

pub returns-then-left-eq0 : goal.returns-then-left-eq0
returns-then-left-eq0 c = segment-found _ _ _ _ _ c.loop-s.invariant _ _ c.in-Some.ensures.steps.1 _ false c.name_of-name.ensures (search rules) refl c.if-left-eq0.true

pub overflow_add-at-in-loop-s : goal.overflow_add-at-in-loop-s
overflow_add-at-in-loop-s c = search (place-fits, rules)

pub loop-s-preserved : goal.loop-s-preserved
loop-s-preserved c =
    elim c.if-ne.branch [
      | then-ne+else-left-eq0 w ↦
          rw w.left-is (segment-past _ _ _ _ _ c.loop-s.invariant _ _ c.in-Some.ensures.steps.1 _ false c.name_of-name.ensures (search rules) refl w.if-left-eq0.false)
      | else-ne w ↦ rw w.left-is (segment-other _ _ _ _ _ c.loop-s.invariant _ _ c.in-Some.ensures.steps.1 _ true c.name_of-name.ensures (search rules) refl)
    ]

pub returns : goal.returns
returns c = record { told = segment-over _ _ _ _ _ c.loop-s.invariant _ c.in-None.ensures.steps.1; within = search (nothing-within, rules) }
