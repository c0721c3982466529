-- KEYS BY NUMBER: which numbers are keys, and where each starts, its object and its text; when two are the same, and the mark and the chain that are one for the same keys. Assumes nothing.
use Rattle.std.specs.Prelude.{◌≡◌, List, [], ◌∷◌, ℕ, ◌+◌, ◌*◌, ◌/◌, ◌%◌, ◌<◌}
use Rattle.std.proofs.Common.{mod-lt, arith}
use Rattle.repeats.specs.Mark.{mark}

pub record Numbering : Type 1 where
  pub Key : ℕ → Type 0
  pub start : ℕ → ℕ
  pub object : ℕ → ℕ
  pub text : ℕ → List ℕ

pub record Same (N : Numbering) (i k : ℕ) : Type 0 where
  pub objects : N.object i ≡ N.object k
  pub texts : N.text i ≡ N.text k

abbrev pub mark_of : Numbering → ℕ → ℕ
mark_of N i = mark (N.text i)

-- ---- chains: keys as people write them have few marks, `key0` to `key2899` 164, so another number picks the chain

unfoldable pub stir : ℕ → List ℕ → ℕ
stir h [] = h
stir h (b ∷ bs) = stir ((31 * h + b) % 4294967296) bs

abbrev pub spread : ℕ → ℕ
spread h = (h + h / 1048576) % 4096

-- the chain of a text in an object
unfoldable pub chain_of : ℕ → List ℕ → ℕ
chain_of g s = spread (stir g s)

abbrev pub chain_at : Numbering → ℕ → ℕ
chain_at N i = chain_of (N.object i) (N.text i)

pub chain_low : (N : Numbering) (i : ℕ) → chain_at N i < 4096
unfolding chain_of
chain_low N i = let h = stir (N.object i) (N.text i) in mod-lt (h + h / 1048576) (omega arith)

pub same_chain : (N : Numbering) (i k : ℕ) → Same N i k → chain_at N i ≡ chain_at N k
same_chain N i k s = rw (s.objects, s.texts)
