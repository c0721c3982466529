-- A FURTHER LINE of joined strings at a place of a document: col spaces and a quote, or how far one would begin.
use Rattle.std.specs.Prelude.{◌≡◌, refl, List, true, false, ℕ, ◌+◌, ◌≤◌, ◌<◌, length, drop}
use Rattle.std.proofs.Common.{ap, ◌∙◌, arith, drop-drop}
use Rattle.exact.specs.Class.{is}
use Rattle.exact.specs.Block.{ind, lead, indented_r}
use Rattle.exact.specs.Lines.{spaces, indented_ok, ind_short, ind_full, ind_peek}
use Rattle.exact.specs.Place.{peek}
use Rattle.rooms.specs.Indent.{spaces_lead}
use Rattle.blocktext.specs.Joined.{quotes, joined_line_r}
use Rattle.std.specs.declared.result.Result.{Result}
use Rattle.std.specs.declared.result.Result.TheVariants.{Err, Ok}

-- a further line, as the crate's type of this name says it: where its quoted string begins, or how far one would begin
abbrev pub Next : Type 0
Next = Result ℕ ℕ

pub record Follows (doc : List ℕ) (col a s : ℕ) : Type 0 where
  pub look : ind (is quotes) col (drop a doc) ≡ true
  pub is : indented_r col joined_line_r a (drop a doc) ≡ joined_line_r s (drop s doc)
  pub from : a ≤ s
  pub inside : s < length doc

pub record Ceases (doc : List ℕ) (col a far : ℕ) : Type 0 where
  pub look : ind (is quotes) col (drop a doc) ≡ false
  pub reach : far ≡ a + lead col (drop a doc)

unfoldable pub NextAt : List ℕ → ℕ → ℕ → Next → Type 0
NextAt doc col a (Ok s) = Follows doc col a s
NextAt doc col a (Err far) = Ceases doc col a far

module _ (doc : List ℕ) (col a i : ℕ) (h : i ≡ lead col (drop a doc)) where
  pub next_short : i < col → Ceases doc col a (a + i)
  next_short l = record { look = ind_short (is quotes) col (drop a doc) (let z = spaces_lead col (drop a doc) in omega arith); reach = ap (a +◌) h }

  module _ (le : i ≤ col) (l : col ≤ i) where
    whole : spaces col (drop a doc) ≡ col
    whole = spaces_lead col (drop a doc) ∙ omega arith

    place : a + col ≡ a + i
    place = omega arith

    looked : ind (is quotes) col (drop a doc) ≡ is quotes (peek doc (a + i))
    looked =
        ind_full (is quotes) col (drop a doc) whole
        ∙ (ap (ind (is quotes) 0) (drop-drop col a doc) ∙ (ind_peek quotes doc (a + col) refl ∙ ap (λ n. is quotes (peek doc n)) place))

    pub next_other : is quotes (peek doc (a + i)) ≡ false → Ceases doc col a (a + i)
    next_other e = record { look = looked ∙ e; reach = ap (a +◌) h }

    pub next_quote : is quotes (peek doc (a + i)) ≡ true → a + i < length doc → Follows doc col a (a + i)
    next_quote e k =
        record {
          look = looked ∙ e;
          is = indented_ok col joined_line_r a (drop a doc) whole ∙ (ap (joined_line_r (a + col)) (drop-drop col a doc) ∙ ap (λ n. joined_line_r n (drop n doc)) place);
          from = omega arith;
          inside = k;
        }
