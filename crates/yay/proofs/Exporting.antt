-- Laws of the C interface: its promises from those of the questions, of `decide`, `overlay`, `store` and `load`. Assumes nothing.
use mathlib.Core.Path.{◌≡◌, refl, sym, ap, ◌∙◌}
use mathlib.Core.List.{List}
use mathlib.Core.Bool.{Bool, true, false, ◌&&◌}
use Prim.Native.Nat.{ℕ, ◌+◌, ◌*◌, ◌<◌}
use native.Mathlib.Omega.{arith}
use lib.ListN.{length, get_or}
use lib.Dec.{ltb, leb}
use borrow.Author.Tests.{leb-true}
use Rattle.language.specs.Kind.{pick, has_text}
use Rattle.language.specs.Lent.{words_in, bytes_in}
use Rattle.questions.specs.Table.{word, kind, start, end, good, readable}
use Rattle.questions.specs.Text.{text_number}
use Rattle.std.specs.Prelude.{Result}
use Rattle.language.specs.Tree.{width}
use Rattle.upgrade.specs.Decides.{Decides}
use Rattle.overlay.specs.declared.Filled.{Filled}
use Rattle.overlay.specs.declared.OverlayRefusal.{OverlayRefusal}
use Rattle.overlay.specs.Overlaid.{Overlaid, gave_number, gave_first, gave_second}
use Rattle.stored.specs.declared.StoreRefusal.{StoreRefusal}
use Rattle.stored.specs.declared.Loaded.{Loaded}
use Rattle.stored.specs.declared.LoadRefusal.{LoadRefusal}
use Rattle.stored.specs.Stored.{storing_number, storing_count, Stores}
use Rattle.stored.specs.Loaded.{loading_number, loading_value, loading_second, Loads}
use Rattle.exports.specs.Exports.{TextAt}

-- ---- `yay_text`

module _ (table : List ℕ) (R : ℕ) (room : List ℕ) (r n : ℕ) (x : n ≡ text_number table R room r) where
  is_readable : n ≡ 0 → readable table R room r ≡ true
  unfolding text_number
  is_readable e = go (readable table R room r) (sym x ∙ e)
    where
      go : (b : Bool) → ◌≡◌ {A = ℕ} (pick b 0 9) 0 → b ≡ true
      go true h = refl
      go false h = absurd (omega arith)

  not_readable : (n ≡ 0 → ⊥) → readable table R room r ≡ false
  unfolding text_number
  not_readable e = go (readable table R room r) refl
    where
      go : (b : Bool) → readable table R room r ≡ b → b ≡ false
      go true h = absurd (e (x ∙ ap (λ (c : Bool). pick c 0 9) h))
      go false h = refl

  pub text_inside : (j : ℕ) → j < width → n ≡ 0 → width * r + j < length table
  unfolding readable good
  text_inside j l e = go (ltb r R) refl (is_readable e)
    where
      size : (b : Bool) → leb (width * (r + 1)) (words_in table) ≡ b → b ≡ true → width * r + j < length table
      size true h k = let z = leb-true (width * (r + 1)) (words_in table) h in omega arith
      size false h k = let z : ◌≡◌ {A = ℕ} 0 1 = cc in absurd (omega arith)

      rest : (b c : Bool) → (b && c) ≡ true → b ≡ true
      rest true c h = refl
      rest false c h = h

      go : (b : Bool) → ltb r R ≡ b → ((b && leb (width * (r + 1)) (words_in table)) && (has_text (kind table r) && (leb (start table r) (end table r) && leb (end table r) (bytes_in room)))) ≡ true
          → width * r + j < length table
      go true h k = size (leb (width * (r + 1)) (words_in table)) refl (rest (leb (width * (r + 1)) (words_in table)) _ k)
      go false h k = let z : ◌≡◌ {A = ℕ} 0 1 = cc in absurd (omega arith)

  pub text_at : (a b : ℕ) → n ≡ 0 → a ≡ get_or table (width * r + 3) 0 → b ≡ get_or table (width * r + 4) 0 → TextAt table R room r 0 a b
  unfolding word
  text_at a b e p q = record { number_is = sym e ∙ x; from_is = p ∙ sym (ap (λ (c : Bool). pick c (start table r) 0) (is_readable e)); to_is = q ∙ sym (ap (λ (c : Bool). pick c (end table r) 0) (is_readable e)) }

  pub text_bad : (n ≡ 0 → ⊥) → TextAt table R room r 9 0 0
  unfolding text_number
  text_bad e =
      let h = not_readable e in
      record { number_is = sym (ap (λ (c : Bool). pick c 0 9) h); from_is = sym (ap (λ (c : Bool). pick c (start table r) 0) h); to_is = sym (ap (λ (c : Bool). pick c (end table r) 0) h) }

-- ---- `yay_decide`

module _ (sheet : List ℕ) (rows : ℕ) (text installed : List ℕ) (rows' : ℕ) (text' : List ℕ) (a : Rattle.upgrade.specs.Decides.Answer) where
  pub decides_as : Decides sheet rows text installed rows' text' (Rattle.upgrade.specs.Decides.number a) (Rattle.upgrade.specs.Decides.value a) → (n d : ℕ)
      → n ≡ Rattle.upgrade.specs.Decides.number a → d ≡ Rattle.upgrade.specs.Decides.value a → Decides sheet rows text installed rows' text' n d
  decides_as x n d e f = rw (e, f) x

-- ---- `yay_overlay`

module _ (lower : List ℕ) (m : ℕ) (lowerText upper : List ℕ) (n : ℕ) (upperText table text table' text' : List ℕ) (a : Result Filled OverlayRefusal) where
  pub overlays_as : Overlaid lower m lowerText upper n upperText table text (gave_number a) (gave_first a) (gave_second a) table' text' → (c v s : ℕ) → c ≡ gave_number a → v ≡ gave_first a → s ≡ gave_second a
      → Overlaid lower m lowerText upper n upperText table text c v s table' text'
  overlays_as x c v s e f g = rw (e, f, g) x

-- ---- `yay_store`, `yay_load`

pub stores_as : (table : List ℕ) (rows : ℕ) (text out out' : List ℕ) (a : Result ℕ StoreRefusal) (n c : ℕ) → Stores table rows text out (storing_number a) (storing_count a) out' → n ≡ storing_number a → c ≡ storing_count a
    → Stores table rows text out n c out'
stores_as table rows text out out' a n c x e f = rw (e, f) x

pub loads_as : (stored table text table' text' : List ℕ) (a : Result Loaded LoadRefusal) (n v s : ℕ) → Loads stored table text (loading_number a) (loading_value a) (loading_second a) table' text' → n ≡ loading_number a
    → v ≡ loading_value a → s ≡ loading_second a → Loads stored table text n v s table' text'
loads_as stored table text table' text' a n v s x e f g = rw (e, f, g) x
