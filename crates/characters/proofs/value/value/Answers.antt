-- `value` answers the scalar value of the character whose bytes stand there.
use Rattle.characters.proofs.Chars.{valued}
use Rattle.characters.proofs.value.value.Goals as goal

pub returns-then-e-a-eq2 : goal.returns-then-e-a-eq2
returns-then-e-a-eq2 c = search valued

pub returns-then-e-a-eq3 : goal.returns-then-e-a-eq3
returns-then-e-a-eq3 c = search valued

pub returns : goal.returns
returns c = search valued
