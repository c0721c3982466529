-- `clean_end` passes over what stands as itself.
use Rattle.strings.proofs.CleanLaws.{cleans}
use Rattle.strings.proofs.clean.clean_end.Goals as goal

pub loop-m-preserved : goal.loop-m-preserved
loop-m-preserved c = search cleans

pub returns : goal.returns
returns c = search cleans
