-- THE NUMBERS THAT A QUESTION OF A TABLE ANSWERS (01, Numbers of refusal). Their place is 0. Assumes nothing.
use Rattle.std.specs.Prelude.{ℕ}
pub use Rattle.language.specs.Answered.{BADROW}

-- "the key isn't in the object"
abbrev pub NONE : ℕ
NONE = 10
