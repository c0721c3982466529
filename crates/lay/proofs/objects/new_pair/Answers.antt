-- `new_pair` stores a pair that is new.
use Rattle.lay.specs.Lowering.{adding_left, adding_key, adding_value, adding_done}
use mathlib.Core.Path.{refl, sym, ◌∙◌}
use Rattle.lay.proofs.objects.new_pair.Goals as goal

pub returns-then-is_some : goal.returns-then-is_some
returns-then-is_some c = λ h. adding_left _ _ _ _ _ h (sym c.is_some.ensures ∙ c.if-is_some.true)

pub kept-y-requires : goal.kept-y-requires
kept-y-requires c = (adding_key _ _ _ _ _ c.requires.0 (sym c.is_some.ensures ∙ c.if-is_some.false), c.requires.1)

pub kept-requires : goal.kept-requires
kept-requires c = (adding_value _ _ _ _ _ c.requires.0 (sym c.is_some.ensures ∙ c.if-is_some.false) c.kept-y.ensures, c.requires.1)

pub returns : goal.returns
returns c = λ h. adding_done _ _ _ _ _ h (sym c.is_some.ensures ∙ c.if-is_some.false) c.kept-y.ensures _ c.kept.ensures _ refl refl
