-- A name for all of the rules: to unfold it is to unfold them, so that they compute.
use Rattle.rules.specs.Lists as Lists
use Rattle.rules.specs.Shift as Shift
use Rattle.rules.specs.Frame as Frame
use Rattle.rules.specs.Value as Value
use Rattle.rules.specs.Escape as Escape
use Rattle.rules.specs.Places as Places
use Rattle.rules.specs.View as View
use Rattle.rules.specs.Judge as Judge
use Rattle.rules.specs.Check as Check
use Rattle.rules.specs.Fetch as Fetch
use Rattle.rules.specs.Row as Row
use Rattle.rules.specs.Sheet as Sheet
use Rattle.rules.specs.Message as Message

unfoldable pub rules : Unit {0}
unfolding Lists.defined Shift.defined Frame.defined Value.defined Escape.defined Places.defined View.defined Judge.defined Check.defined Fetch.defined Row.defined Sheet.defined Message.defined
rules = tt
