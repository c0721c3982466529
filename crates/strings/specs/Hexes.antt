-- What the functions that read hex pairs promise.
use Rattle.std.specs.Prelude.{◌≡◌, List, [], ◌∷◌, true, false, ℕ, ◌+◌, ◌≤◌, ◌<◌, length, drop}
use Rattle.exact.specs.Class.{is}
use Rattle.exact.specs.Out.{Reader, bad, fmap}
use Rattle.exact.specs.Block.{lead}
use Rattle.exact.specs.Place.{peek}
use Rattle.language.specs.Strings.{lowhex}
use Rattle.language.specs.Tree.{Decoded, unescaped}
use Rattle.rooms.specs.declared.Cursor.{Cursor}
use Rattle.rooms.specs.Contract.{Ans}
use Rattle.std.specs.declared.result.Result.TheVariants.{Err, Ok}
use Rattle.rooms.specs.Contract.{Far}
use Rattle.rooms.specs.Contract.{onward}
use Rattle.strings.specs.Bytes.{pair_r, further_r, pairs_r, pairs_on}
use Rattle.strings.specs.Contract.{Texted}

-- a pair, as a text of one byte
abbrev pub pair_text_r : Reader Decoded
pair_text_r at s = fmap (λ p. unescaped (p ∷ [])) (pair_r at s)

-- behind a pair that ends at c a further one begins at n
pub record Further (doc : List ℕ) (c n : Cursor) : Type 0 where
  pub on : pairs_on (drop c.at doc) ≡ true
  pub digit : is lowhex (peek doc n.at) ≡ true
  pub is : further_r c.at (drop c.at doc) ≡ pair_r n.at (drop n.at doc)
  pub from : c.at ≤ n.at
  pub inside : n.at < length doc
  pub row : n.row ≡ c.row
  pub text : n.text ≡ c.text

-- or none does, and one would begin as far as `far`
pub record Stopped (doc : List ℕ) (at far : ℕ) : Type 0 where
  pub off : pairs_on (drop at doc) ≡ false
  pub is : far ≡ at + lead 1 (drop at doc)

unfoldable pub Furthers : List ℕ → Cursor → Ans → Type 0
Furthers doc c (Ok n) = Further doc c n
Furthers doc c (Err far) = Stopped doc c.at far

-- the pairs from c to n, behind which no further one begins
pub record Paired (doc : List ℕ) (c n : Cursor) (far : ℕ) (text text' : List ℕ) : Type 0 where
  pub texted : Texted unescaped doc c (pairs_r c.at (drop c.at doc)) n far text text'
  pub far_is : far ≡ n.at + lead 1 (drop n.at doc)

unfoldable pub PairsAt : List ℕ → Cursor → Far → List ℕ → List ℕ → Type 0
PairsAt doc c (Ok (n, far)) text text' = Paired doc c n far text text'
PairsAt doc c (Err p) text text' = pairs_r c.at (drop c.at doc) ≡ bad p

-- `>` stands at n, and the cursor behind it; or it does not
unfoldable pub Closed : List ℕ → Cursor → ℕ → Ans → Type 0
Closed doc n far (Ok m) = (m ≡ onward n 1) × (62 ≡ peek doc n.at)
Closed doc n far (Err p) = (p ≡ far) × (peek doc n.at ≡ 62 → ⊥)
