-- WHAT TESTING ROWS TELLS (`Tests`): the members that stand from a row on, with the row and the text byte behind them, or that none stand there. Assumes nothing.
use Rattle.std.specs.Prelude.{◌≡◌, refl, ℕ, ◌+◌, ◌*◌, ◌≤◌, ◌<◌}
use Rattle.std.proofs.Common.{sym, ◌∙◌, arith}
use Rattle.std.proofs.Math.Path.{ap}
use mathlib.Core.List.{List, [], ◌∷◌, ◌++◌}
use Rattle.std.proofs.Math.ListN.{length}
use Rattle.language.specs.Tree.{Tree, Forest, none, more, width, size, sizes, text_of, texts_of}
use Rattle.language.specs.Lent.{bytes_in}
use Rattle.shaped.specs.RowsAt.{RowsAt, ForestAt, none_at, more_at, first_at}
use Rattle.std.specs.declared.option.Option.{Option}
use Rattle.std.specs.declared.option.Option.TheVariants.{Some, None}
use Rattle.sound.specs.declared.Tested.{Tested}
use Rattle.sound.specs.Members.{One, one}

append_none : (s : List ℕ) → s ++ [] ≡ s
append_none [] = refl
append_none (b ∷ s) = ap (λ (l : List ℕ). b ∷ l) (append_none s)

-- the rows up to `stop` stand in the table, and the text goes on from x
pub record Lies (table text : List ℕ) (stop x : ℕ) : Type 0 where
  pub whole : width * stop ≤ length table
  pub few : stop < 4294967296
  pub inside : x ≤ bytes_in text

-- the row and the text byte behind what was tested
abbrev pub Good : ℕ → ℕ → Option Tested
Good n y = Some (record { row = n; text = y })

module _ (table text : List ℕ) where
  -- members stand from row r up to n, below `stop`, as children of p, and their text from x up to y
  pub record Stand (Q : Forest → Type 0) (stop r p x n y : ℕ) : Type 0 where
    pub members : Forest
    pub good : Q members
    pub at : ForestAt table text r p x members
    pub next : n ≡ r + sizes members
    pub end : y ≡ x + length (texts_of members)
    pub below : n ≤ stop

  abbrev pub Tests : (Forest → Type 0) → ℕ → ℕ → ℕ → ℕ → Option Tested → Type 0
  Tests Q stop r p x (Some t) = Stand Q stop r p x t.row t.text
  Tests Q stop r p x None = (ts : Forest) → Q ts → ForestAt table text r p x ts → r + sizes ts ≤ stop → ⊥

  -- the text behind members is inside the room
  pub stand_inside : {Q : Forest → Type 0} {stop r p x n y : ℕ} → Stand Q stop r p x n y → y ≤ bytes_in text
  stand_inside s = omega (arith, s.end, s.at.text_is.fits)

  -- ONE TREE alone
  module _ {P : Tree → Type 0} {stop r p x : ℕ} where
    pub alone : (t : Tree) → P t → RowsAt table text r p x t → (n y : ℕ) → n ≡ r + size t → y ≡ x + length (text_of t) → n ≤ stop → Stand (One P) stop r p x n y
    unfolding sizes texts_of
    alone t q h n y e f l =
        record {
          members = more t none;
          good = one q;
          at = more_at table text h (none_at table text (let g = h.text_is.fits in g));
          next = omega arith;
          end = f ∙ ap (λ (s : List ℕ). x + length s) (sym (append_none (text_of t)));
          below = l;
        }

    pub none_alone : ((t : Tree) → P t → RowsAt table text r p x t → r + size t ≤ stop → ⊥) → Tests (One P) stop r p x None
    unfolding sizes
    none_alone f ts (one {t = t} q) h l = f t q (first_at table text h) (omega arith)
