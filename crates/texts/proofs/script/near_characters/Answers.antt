-- `near_characters` passes whole characters. Assumes nothing.
use Rattle.texts.specs.Whole.{stepped_led, whole_step}
use Rattle.texts.proofs.script.near_characters.Goals as goal

pub near_ascii-i-requires : goal.near_ascii-i-requires
near_ascii-i-requires c =
    whole_step _ _ c.loop-i.invariant c.loop-i-test.true _ (stepped_led _ _ c.loop-i-test.true _ c.near_character-n.ensures) c.if-n-eq0.false
