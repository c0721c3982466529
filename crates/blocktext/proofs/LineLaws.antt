-- Spaces and a text as calls find them: laws as `search` takes them. Assumes nothing.
use mathlib.Core.Path.{◌≡◌, sym, ap, ◌∙◌}
use mathlib.Core.List.{List}
use Prim.Native.Nat.{ℕ, ◌≤◌}
use native.Mathlib.Omega.{arith}
use lib.ListN.{length, drop}
use borrow.Author.Rules.{rules}
use Rattle.exact.specs.Class.{is, only}
use Rattle.exact.specs.Out.{ok}
use Rattle.exact.specs.Lang.{byte_r}
use Rattle.exact.specs.Place.{peek, run_end, run_inside}
use Rattle.characters.specs.Comments.{pieces_r}
use Rattle.characters.specs.Reads.{Skips, Ends}
use Rattle.characters.specs.Takes.{take_byte, take_place, take_other, take_inside}
use Rattle.characters.specs.Reads.{Skip}
use Rattle.std.specs.declared.result.Result.TheVariants.{Err, Ok}
use Rattle.blocktext.specs.Contract.{Spaced, no_text, no_feed, TextAt}
use Rattle.blocktext.specs.Pieces.{solid_r, solid_none, solid_some, solid_bad, solid_text, solid_dry, solid_ahead}

-- ---- spaces
pub spaced_of : (doc : List ℕ) (at s : ℕ) → at ≤ length doc → s ≡ run_end (only 32) doc at → Spaced doc at s
spaced_of doc at s l h = record { is = h; from = omega arith; inside = omega (arith, run_inside (only 32) doc at l) }

-- ---- a text
module _ (doc : List ℕ) (at : ℕ) (a : Skip) (s : Skips doc at (pieces_r at (drop at doc)) a) where
  pub text_bad : (p : ℕ) → a ≡ Err p → TextAt doc at (Err p)
  unfolding TextAt Skips
  text_bad p e = no_text (solid_bad at (drop at doc) p (rw e at s))

  module _ (n : ℕ) (e : a ≡ Ok n) where
    ends : Ends doc at (pieces_r at (drop at doc)) n
    unfolding Skips
    ends = rw e at s

    pub text_in : n ≤ length doc
    text_in = ends.inside

    pub text_none : n ≡ at → TextAt doc at (Err n)
    unfolding TextAt
    text_none h = rw h (no_text (solid_none at (drop at doc) ends.value n (drop n doc) ends.is h))

    module _ (h : n ≡ at → ⊥) (g : Skip) (t : Skips doc n (byte_r (is (only 10)) n (drop n doc)) g) where
      solid : solid_r at (drop at doc) ≡ ok ends.value n (drop n doc)
      solid = solid_some at (drop at doc) ends.value n (drop n doc) ends.is h

      pub text_open : (p : ℕ) → g ≡ Err p → TextAt doc at (Err p)
      unfolding TextAt
      text_open p z = rw (take_place doc n 10 (omega arith) g t p z) (no_feed ends.value solid (take_other doc n 10 (omega arith) g t p z))

      pub text_closed : (m : ℕ) → g ≡ Ok m → TextAt doc at (Ok n)
      unfolding TextAt
      text_closed m z =
          let f : peek doc n ≡ 10 = sym (take_byte doc n 10 (omega arith) g t m z) in
          record {
            is = solid ∙ ap (λ v. ok v n (drop n doc)) (solid_text doc at ends.value n solid f);
            ahead = solid_ahead doc at ends.value n solid f;
            inside = take_inside doc n 10 (omega arith) g t m z;
            feed = f;
            dry = solid_dry doc at ends.value n solid f;
          }

pub ruleset texting = (text_bad, text_in, text_none, text_open, text_closed, rules)
