-- `key` tests a key where it stands whole before the nearest cut, and else by its extent.
use Rattle.cutvalues.proofs.CutLaws.{place_small, run_few, near_key}
use Rattle.cutvalues.proofs.key.Goals as goal

pub run_key-requires : goal.run_key-requires
run_key-requires c = (run_few _ _ _ _ c.run_at-run.ensures, place_small c.args.v.content c.args.at c.requires.1)

pub returns-then-is_field : goal.returns-then-is_field
returns-then-is_field c = near_key _ _ _ _ c.run_at-run.ensures _ c.is_field.ensures c.if-is_field.true _ c.run_key.ensures
