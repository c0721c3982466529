-- What the check does not find alone of `body_line`.
use Rattle.blocktext.proofs.BodyLaws.{seeing}
use Rattle.blocktext.proofs.body.body_line.Goals as goal

pub text_line-requires : goal.text_line-requires
text_line-requires c = search seeing
