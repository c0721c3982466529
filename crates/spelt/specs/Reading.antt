-- A TEXT READ a byte at a time from the place of its key. Assumes nothing.
use Rattle.std.specs.Prelude.{◌≡◌, refl, List, [], ◌∷◌, ℕ, ◌≤◌, length, replicate}
use Rattle.std.proofs.Common.{◌∙◌, arith}
use Rattle.language.specs.Answered.{limit}
use Rattle.exact.specs.Place.{peek}
use Rattle.named.specs.Lie.{KeyAt}
use Rattle.spelt.specs.declared.spelling.Spelling.{Spelling}
use Rattle.spelt.specs.Spelling.{Given}
use Rattle.std.specs.declared.option.Option.TheVariants.{None, Some}
use Rattle.spelt.specs.Texts.{spelled, ends}
use Rattle.spelt.specs.Spelling.{Rest, Spellable, Gave, Nexts, Begins}

-- a key stands at a place
pub record Keyed (doc : List ℕ) (at : ℕ) : Type 0 where
  pub short : length doc ≤ limit
  pub key : KeyAt doc at (spelled doc at) (ends doc at)

pub keyed_low : (doc : List ℕ) (at : ℕ) → Keyed doc at → at ≤ limit
keyed_low doc at k = omega (arith, k.short, k.key.ahead, k.key.inside)

-- a text that is read, in a room for one piece
pub record Reads (doc room : List ℕ) (p : Spelling) (s : List ℕ) : Type 0 where
  pub short : length doc ≤ limit
  pub long : length room ≡ 8
  pub rest : Rest doc room p s

module _ (doc : List ℕ) (room : List ℕ) (p : Spelling) (s : List ℕ) (x : Reads doc room p s) where
  pub reads_able : Spellable doc room p
  reads_able = record { short = x.short; long = x.long; text = s; rest = x.rest }

  module _ (room' : List ℕ) (g : Given) (h : Nexts doc room p room' g) where
    pub reads_end : g ≡ None → s ≡ []
    unfolding Nexts
    reads_end e = (rw e at h) s x.rest

    module _ (b : ℕ) (n : Spelling) (e : g ≡ Some (b, n)) where
      pub gave : Gave doc room p room' b n
      unfolding Nexts
      gave = rw e at h

      unfoldable pub others : List ℕ
      others = (gave.more s x.rest).others

      pub reads_is : s ≡ b ∷ others
      unfolding others
      reads_is = (gave.more s x.rest).is

      pub reads_on : length room' ≡ length room → Reads doc room' n others
      unfolding others
      reads_on l = record { short = x.short; long = l ∙ x.long; rest = (gave.more s x.rest).rest }

pub reads_first : (doc : List ℕ) (at : ℕ) (p : Spelling) → Keyed doc at → Begins doc at p → Reads doc (replicate 8 0) p (spelled doc at)
reads_first doc at p k h = record { short = k.short; long = refl; rest = h (spelled doc at) (ends doc at) k.key (replicate 8 0) }

-- no quote stands at a place
pub record Bare (doc : List ℕ) (at : ℕ) : Type 0 where
  pub no_double : peek doc at ≡ 34 → ⊥
  pub no_single : peek doc at ≡ 39 → ⊥

pub bare_of : (doc : List ℕ) (at b : ℕ) → b ≡ peek doc at → (b ≡ 34 → ⊥) → (b ≡ 39 → ⊥) → Bare doc at
bare_of doc at b h n o = record { no_double = λ e. n (h ∙ e); no_single = λ e. o (h ∙ e) }

abbrev pub bare : ℕ → Spelling
bare a = record { at = a; quote = 0; from = 0; to = 0 }
