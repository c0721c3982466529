-- `load` keeps its promise: what is no stored form, or too much for the rooms, is told before they are filled.
use Rattle.load.specs.Loading.{loading}
use Rattle.load.proofs.load.Goals as goal

pub returns-in_default : goal.returns-in_default
returns-in_default c = search loading

pub returns-then-rows_lent-held : goal.returns-then-rows_lent-held
returns-then-rows_lent-held c = search loading

pub returns-then-bytes_lent-held : goal.returns-then-bytes_lent-held
returns-then-bytes_lent-held c = search loading

pub returns : goal.returns
returns c = search loading
