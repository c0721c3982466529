-- THE THEOREMS OF OVERLAYS (02, Ticket 7), by name. What they say stands in `overlay` (Overlay, Overlaid; Profiles, Promise, Clash, Keys, Finds, FindsIn).
use Rattle.std.specs.Prelude.{◌≡◌, refl, ◌↔◌, true, List, ◌++◌, ℕ, Result}
use Rattle.std.proofs.Common.{subst}
use Rattle.language.specs.Tree.{Tree}
use Rattle.language.specs.Alike.{unspan}
use Rattle.language.specs.Answered.{deepest, Reads, Answered}
use Rattle.language.specs.Sound.{Holds, Sound}
use Rattle.shaped.specs.Holds.{accepted_holds}
use Rattle.overlay.specs.declared.Filled.{Filled}
use Rattle.overlay.specs.declared.OverlayRefusal.{OverlayRefusal}
use Rattle.overlay.specs.Overlay.{is_object, laid, clash, overlay}
use Rattle.overlay.specs.Overlaid.{gave_number, gave_first, gave_second, Given, Overlaid}
use Rattle.overlay.specs.Profiles.{ProfileTree}
use Rattle.overlay.specs.Clash.{Clash}
use Rattle.overlay.specs.Keys.{keys, new_keys}
use Rattle.overlay.specs.Finds.{Finds, KeyOver}
use Rattle.overlay.specs.FindsIn.{FoundIn}
use Rattle.overlay.specs.Promise as promise
use Rattle.overlay.proofs.PromiseLaws as promise_laws
use Rattle.overlay.specs.Result as result
use Rattle.overlay.proofs.ResultLaws as result_laws
use Rattle.overlay.specs.Clashed as clashed
use Rattle.overlay.proofs.ClashedLaws as clashed_laws
use Rattle.overlay.specs.Keys as keys_of
use Rattle.overlay.proofs.KeysLaws as keys_of_laws
use Rattle.overlay.specs.Finds as trees
use Rattle.overlay.proofs.FindsLaws as trees_laws
use Rattle.overlay.specs.FindsIn as tables
use Rattle.overlay.proofs.FindsInLaws as tables_laws
use Rattle.theorems.specs.Proved.{known}

-- ---- THE PROMISE, of `overlay` and of `yay_overlay`
module _ (lower : List ℕ) (m : ℕ) (lowerText upper : List ℕ) (n : ℕ) (upperText table text : List ℕ) where
  -- ONE OVERLAY: number, both values, and every word and byte of both targets; and so the case of the enum
  pub one_overlay : (c v s c₂ v₂ s₂ : ℕ) (table' text' table'' text'' : List ℕ) → Overlaid lower m lowerText upper n upperText table text c v s table' text'
      → Overlaid lower m lowerText upper n upperText table text c₂ v₂ s₂ table'' text'' → (c ≡ c₂) × (v ≡ v₂) × (s ≡ s₂) × (table' ≡ table'') × (text' ≡ text'')
  one_overlay c v s c₂ v₂ s₂ table' text' table'' text'' x y = promise_laws.one_overlay x y

  pub one_gave : (a b : Result Filled OverlayRefusal) (table' text' table'' text'' : List ℕ) → Overlaid lower m lowerText upper n upperText table text (gave_number a) (gave_first a) (gave_second a) table' text'
      → Overlaid lower m lowerText upper n upperText table text (gave_number b) (gave_first b) (gave_second b) table'' text'' → a ≡ b
  one_gave a b table' text' table'' text'' x y = let e = promise_laws.one_overlay x y in promise.one_case a b e.0 e.1 e.2

  module _ (v s : ℕ) (table' text' : List ℕ) (x : Overlaid lower m lowerText upper n upperText table text 0 v s table' text') where
    -- OVERLAY SOUND: the result is a sound table, whose tree is the overlay of the two tables' trees, and its root an object
    pub overlay_sound : Sound table' v text'
    overlay_sound = promise_laws.overlay_sound x refl

    pub overlay_holds : promise.Laying lower m lowerText upper n upperText table' v text'
    overlay_holds = promise_laws.overlay_holds x refl

    -- FINDING A KEY in row 0 of the result
    pub overlay_found : FoundIn lower m lowerText upper n upperText table' v text'
    overlay_found = tables_laws.overlay_found x refl

-- FROM DOCUMENTS: of two that `read` accepts, whose roots are objects, the answer is that of the overlay of their trees
pub documents_overlay : (doc table text table' text' : List ℕ) (n m : ℕ) (doc₂ table₂ text₂ table₃ text₃ : List ℕ) (n₂ m₂ : ℕ) (t u : Tree) (room rest room' rest' : List ℕ) (c v s : ℕ)
    → Reads doc t → Reads doc₂ u → is_object t ≡ true → is_object u ≡ true → Answered doc table text 0 n m table' text' → Answered doc₂ table₂ text₂ 0 n₂ m₂ table₃ text₃
    → Overlaid table' n text' table₃ n₂ text₃ room rest c v s room' rest' → Given room rest (overlay t u) c v s room' rest'
documents_overlay doc table text table' text' n m doc₂ table₂ text₂ table₃ text₃ n₂ m₂ t u room rest room' rest' c v s r q o p x y z =
    let a = accepted_holds x refl in
    let b = accepted_holds y refl in
    let e : a.tree ≡ t = known.one_tree deepest doc a.tree t a.reads.word r.word in
    let f : b.tree ≡ u = known.one_tree deepest doc₂ b.tree u b.reads.word q.word in
    promise_laws.trees_overlay t u
    (record { holds = subst (λ (w : Tree). Holds table' n text' w) e a.holds; object = o })
    (record { holds = subst (λ (w : Tree). Holds table₃ n₂ text₃ w) f b.holds; object = p })
    z

-- ---- THE TREES
-- what an overlay gives is a tree of which these theorems speak, an object if both are, without spans; and the value of a key is such a tree
pub overlay_profile : (t u r : Tree) → ProfileTree t → ProfileTree u → overlay t u ≡ laid r → ProfileTree r
overlay_profile t u r x y e = result_laws.overlay_profile t u e x y

pub overlay_object : (t u r : Tree) → is_object t ≡ true → is_object u ≡ true → overlay t u ≡ laid r → is_object r ≡ true
overlay_object t u r o q e = result_laws.overlay_object t u e o q

pub overlay_bare : (t u r : Tree) → overlay t u ≡ laid r → unspan r ≡ r
overlay_bare t u r e = result_laws.overlay_bare t u e

pub finds_profile : (s : List ℕ) (t v : Tree) → ProfileTree t → Finds s v t → ProfileTree v
finds_profile s t v x h = trees_laws.finds_profile s x h

-- OVERLAY CLASHES exactly if one object stands against one other value, at the roots or below the same keys
pub overlay_clashes : (t u : Tree) → ProfileTree t → ProfileTree u → overlay t u ≡ clash ↔ Clash t u
overlay_clashes = clashed_laws.overlay_clashes

-- OVERLAY KEYS: the lower's in their order, then the upper's new ones
pub overlay_keys : (t u r : Tree) → is_object t ≡ true → is_object u ≡ true → overlay t u ≡ laid r → keys r ≡ keys t ++ new_keys (keys t) (keys u)
overlay_keys = keys_of_laws.overlay_keys

-- OVERLAY FINDS: of each key the upper's value, or the lower's where the upper has none, or the two laid over each other
pub overlay_finds : (t u r : Tree) → ProfileTree t → ProfileTree u → is_object t ≡ true → is_object u ≡ true → overlay t u ≡ laid r → (s : List ℕ) → KeyOver t u r s
overlay_finds = trees_laws.overlay_finds
