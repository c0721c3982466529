-- WHAT THE PROMISE OF THE OVERLAY GIVES: one answer only (`one_overlay`), and where it is 0 a sound table of the two trees laid over each other (`overlay_holds`, `overlay_sound`). Assumes nothing.
use Rattle.std.specs.Prelude.{◌≡◌, refl, List, ◌++◌, ℕ, ◌*◌, ◌≤◌, length, drop, Result, Ok, Err}
use Rattle.std.proofs.Common.{sym, ap, ap₂, subst, ◌∙◌, arith, length-append}
use Rattle.language.specs.Tree.{Tree, width, unlined, size, text_of, rows_of}
use Rattle.language.specs.Alike.{unspan}
use Rattle.language.specs.Lent.{words_in, bytes_in}
use Rattle.language.specs.Sound.{Holds, Sound}
use Rattle.rooms.specs.Forest.{length_rows}
use Rattle.shaped.specs.Bare.{alike_size, alike_at}
use Rattle.shaped.specs.Holds.{at_holds, sound_tree, stored_at}
use Rattle.overlay.specs.declared.Filled.{Filled}
use Rattle.overlay.specs.declared.OverlayRefusal.{OverlayRefusal}
use Rattle.overlay.specs.declared.OverlayRefusal.TheVariants.{BadRow, Clash, TooFew, TooShort}
use Rattle.overlay.specs.Overlay.{is_object, Laid, laid, overlay}
use Rattle.overlay.specs.Overlaid.{gave_number, gave_first, gave_second, HoldsObject, Given, fits, clashed, rows, bytes, Overlaid, gives, bad_lower, bad_upper}
use Rattle.overlay.specs.Unspanned.{unspan_object}
use Rattle.overlay.specs.Profiles.{ProfileTree, profile_tree}

-- ONE ANSWER, for what two trees give
pub one_given : {table text : List ℕ} {l : Laid} {n v s n₂ v₂ s₂ : ℕ} {table' text' table'' text'' : List ℕ} → Given table text l n v s table' text' → Given table text l n₂ v₂ s₂ table'' text''
    → (n ≡ n₂) × (v ≡ v₂) × (s ≡ s₂) × (table' ≡ table'') × (text' ≡ text'')
one_given (fits t h k) (fits _ i j) = (refl, refl, refl, refl, refl)
one_given (fits t h k) (rows _ i) = absurd (omega arith)
one_given (fits t h k) (bytes _ i j) = absurd (omega arith)
one_given clashed clashed = (refl, refl, refl, refl, refl)
one_given (rows t h) (fits _ i j) = absurd (omega arith)
one_given (rows t h) (rows _ i) = (refl, refl, refl, refl, refl)
one_given (rows t h) (bytes _ i j) = absurd (omega arith)
one_given (bytes t h k) (fits _ i j) = absurd (omega arith)
one_given (bytes t h k) (rows _ i) = absurd (omega arith)
one_given (bytes t h k) (bytes _ i j) = (refl, refl, refl, refl, refl)

-- .. and so the case of the answer
pub one_case : (a b : Result Filled OverlayRefusal) → gave_number a ≡ gave_number b → gave_first a ≡ gave_first b → gave_second a ≡ gave_second b → a ≡ b
one_case (Ok d) (Ok o) e f g = ap₂ (λ (i j : ℕ). Ok (record { rows = i; bytes = j })) f g
one_case (Ok d) (Err BadRow) e f g = absurd (omega arith)
one_case (Ok d) (Err Clash) e f g = absurd (omega arith)
one_case (Ok d) (Err (TooFew i)) e f g = absurd (omega arith)
one_case (Ok d) (Err (TooShort i)) e f g = absurd (omega arith)
one_case (Err BadRow) (Ok o) e f g = absurd (omega arith)
one_case (Err BadRow) (Err BadRow) e f g = refl
one_case (Err BadRow) (Err Clash) e f g = absurd (omega arith)
one_case (Err BadRow) (Err (TooFew i)) e f g = absurd (omega arith)
one_case (Err BadRow) (Err (TooShort i)) e f g = absurd (omega arith)
one_case (Err Clash) (Ok o) e f g = absurd (omega arith)
one_case (Err Clash) (Err BadRow) e f g = absurd (omega arith)
one_case (Err Clash) (Err Clash) e f g = refl
one_case (Err Clash) (Err (TooFew i)) e f g = absurd (omega arith)
one_case (Err Clash) (Err (TooShort i)) e f g = absurd (omega arith)
one_case (Err (TooFew p)) (Ok o) e f g = absurd (omega arith)
one_case (Err (TooFew p)) (Err BadRow) e f g = absurd (omega arith)
one_case (Err (TooFew p)) (Err Clash) e f g = absurd (omega arith)
one_case (Err (TooFew p)) (Err (TooFew i)) e f g = ap (λ (i : ℕ). Err (TooFew i)) f
one_case (Err (TooFew p)) (Err (TooShort i)) e f g = absurd (omega arith)
one_case (Err (TooShort p)) (Ok o) e f g = absurd (omega arith)
one_case (Err (TooShort p)) (Err BadRow) e f g = absurd (omega arith)
one_case (Err (TooShort p)) (Err Clash) e f g = absurd (omega arith)
one_case (Err (TooShort p)) (Err (TooFew i)) e f g = absurd (omega arith)
one_case (Err (TooShort p)) (Err (TooShort i)) e f g = ap (λ (i : ℕ). Err (TooShort i)) f

-- rows and text of a tree that a document has, spans aside, at the start of rooms
module _ (r : Tree) (p : ProfileTree r) (table text : List ℕ) where
  pub laid_holds : width * size r ≤ words_in table → length (text_of r) ≤ bytes_in text
      → Holds (rows_of unlined 0 0 0 r ++ drop (width * size r) table) (size r) (text_of r ++ drop (length (text_of r)) text) p.tree
  laid_holds h k =
      let w = rows_of unlined 0 0 0 r in
      let others = drop (width * size r) table in
      let rest = drop (length (text_of r)) text in
      at_holds
      p.profile
      (sym (alike_size r p.tree p.alike))
      (omega (arith, length-append w others, length_rows unlined 0 0 0 r))
      (alike_at r p.tree p.alike (w ++ others) (text_of r ++ rest) (stored_at r unlined others rest (omega arith)))

-- WHERE THE ANSWER IS 0: two sound tables whose roots are objects, and a third with the overlay of their trees
pub record Laying (lower : List ℕ) (m : ℕ) (lowerText upper : List ℕ) (n : ℕ) (upperText table : List ℕ) (c : ℕ) (text : List ℕ) : Type 0 where
  pub under : Tree
  pub above : Tree
  pub tree : Tree
  pub under_held : HoldsObject lower m lowerText under
  pub above_held : HoldsObject upper n upperText above
  pub overlaid : overlay under above ≡ laid (unspan tree)
  pub held : HoldsObject table c text tree
