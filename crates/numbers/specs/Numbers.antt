-- The parts of a number at a place of a document, as readers: behind the sign m and the text w read before. Assumes nothing.
use Rattle.std.specs.Prelude.{List, ◌++◌, Bool, ℕ, ◌+◌, drop}
use Rattle.exact.specs.Class.{pick, is, only}
use Rattle.exact.specs.Out.{Out, bind}
use Rattle.exact.specs.Lang.{ret_r}
use Rattle.exact.specs.Comb.{option_r}
use Rattle.exact.specs.Lines.{raised}
use Rattle.exact.specs.Place.{peek}
use Rattle.language.specs.Kind.{FLOAT}
use Rattle.numbers.specs.Places.{far_at}
use Rattle.numbers.specs.Same.{Found, found}
use Rattle.numbers.specs.Plain.{sign, exponent_r, dotted_r}

-- the place after the sign of an exponent, if it has one
abbrev pub after_sign : List ℕ → ℕ → ℕ
after_sign doc at = pick (is sign (peek doc at)) (at + 1) at

abbrev pub float : List ℕ → List ℕ → List ℕ → ℕ → List ℕ → Out Found
float m w x = ret_r (found FLOAT (m ++ (w ++ x)))

-- an exponent at a place
unfoldable pub exponent_at : Bool → List ℕ → ℕ → List ℕ → List ℕ → Out Found
exponent_at spaced doc at m w = bind (exponent_r spaced at (drop at doc)) (float m w)

-- an exponent or none, after digits that end at `last`
unfoldable pub power_at : Bool → List ℕ → ℕ → ℕ → List ℕ → List ℕ → Out Found
power_at spaced doc last at m w = raised (far_at spaced doc last) (bind (option_r (only 101) (exponent_r spaced) at (drop at doc)) (float m w))

-- a point and what follows it, after digits that end there
unfoldable pub point_at : Bool → List ℕ → ℕ → List ℕ → List ℕ → Out Found
point_at spaced doc at m w = raised (far_at spaced doc at) (dotted_r spaced m w at (drop at doc))
