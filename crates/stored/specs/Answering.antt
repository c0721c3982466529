-- THE ANSWERS, as code finds them: of any tree as documents have them, without repeated keys, whose form the bytes are; and by the count of bytes alone. Assumes nothing.
use Rattle.std.specs.Prelude.{◌≡◌, List, ◌++◌, ℕ, ◌+◌, ◌*◌, ◌≤◌, ◌<◌, length, drop}
use Rattle.std.proofs.Common.{sym, ap, subst, ◌∙◌, arith}
use Rattle.language.specs.Tree.{Tree, width, unlined, size, text_of, rows_of, Once}
use Rattle.language.specs.Answered.{deepest, ROWS, TEXT}
use Rattle.language.specs.Lent.{lent, words_in, bytes_in}
use Rattle.language.specs.Sound.{Holds}
use Rattle.shaped.specs.Shaped.{Shaped}
use Rattle.shaped.specs.Bare.{alike_size, alike_text}
use Rattle.shaped.specs.Holds.{profile_shaped}
use Rattle.stored.specs.Form.{head, widest, form, loaded}
use Rattle.stored.specs.Unspanned.{placed_alike}
use Rattle.stored.specs.Loaded.{BADFORM, Loads, loads, bad_form, rows, bytes}
use Rattle.stored.specs.Keeps.{kept_shaped, KeptLike}

-- ---- storing: however many parts there are, the bytes are few enough to be counted

-- ---- loading

-- what code finds in stored bytes
pub record Found (stored : List ℕ) (t : Tree) : Type 0 where
  pub shaped : Shaped deepest t
  pub once : Once t
  pub bytes : form t ≡ stored

module _ {stored table text : List ℕ} where
  pub load_long : lent < length stored → Loads stored table text BADFORM 0 0 table text
  load_long l = bad_form (λ t x. omega (arith, x.few))

  pub load_bad : ((t : Tree) → Found stored t → ⊥) → Loads stored table text BADFORM 0 0 table text
  load_bad f = bad_form (λ t x. f t (record { shaped = kept_shaped x; once = x.holds.profile.once; bytes = x.bytes }))
