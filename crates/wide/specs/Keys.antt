-- THE KEYS OF AN OBJECT WHOSE CONTENT IS CUT (`Keys`), and what is told of them (`ApartTold`). Assumes nothing.
use Rattle.std.specs.Prelude.{◌≡◌, List, Bool, ℕ, length}
use Rattle.exact.specs.Tells.{Tells}
use Rattle.language.specs.Tree.{Forest}
use Rattle.shaped.specs.Shaped.{Pairs}
use Rattle.stored.specs.Form.{forms}
use Rattle.stored.specs.Bytes.{At}
use Rattle.sound.specs.Distinct.{Distinct}

module _ (v : List ℕ) where
  -- the pairs of an object stand from the beginning up to `stop`
  pub record Keys (stop : ℕ) : Type 0 where
    pub allow : ℕ
    pub count : ℕ
    pub trees : Forest
    pub pairs : Pairs allow count trees
    pub here : At v 0 (forms trees)
    pub total : length (forms trees) ≡ stop

  -- .. n of them
  pub record Counted (stop n : ℕ) : Type 0 where
    pub keys : Keys stop
    pub are : keys.count ≡ n

  -- WHAT IS TOLD of the keys: whether no two have one text
  abbrev pub ApartTold : ℕ → Bool → Type 0
  ApartTold stop b = (h : Keys stop) → Tells (Distinct h.trees) b
