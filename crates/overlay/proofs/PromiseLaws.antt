-- WHAT THE PROMISE OF THE OVERLAY GIVES: one answer only (`one_overlay`), and where it is 0 a sound table of the two trees laid over each other (`overlay_holds`, `overlay_sound`). Assumes nothing.
use Rattle.std.specs.Prelude.{◌≡◌, refl, List, ◌++◌, ℕ, ◌*◌, ◌≤◌, length, drop}
use Rattle.std.proofs.Common.{sym, ap, ap₂, subst, ◌∙◌, arith, length-append}
use Rattle.language.specs.Tree.{Tree, width, unlined, size, text_of, rows_of}
use Rattle.language.specs.Alike.{unspan}
use Rattle.language.specs.Lent.{words_in, bytes_in}
use Rattle.language.specs.Sound.{Holds, Sound}
use Rattle.rooms.specs.Forest.{length_rows}
use Rattle.shaped.specs.Bare.{alike_size, alike_at}
use Rattle.shaped.specs.Holds.{at_holds, sound_tree, stored_at}
use Rattle.overlay.specs.Overlay.{is_object, Laid, laid, overlay}
use Rattle.overlay.specs.Overlaid.{gave_number, gave_first, gave_second, HoldsObject, Given, fits, clashed, rows, bytes, Overlaid, gives, bad_lower, bad_upper}
use Rattle.overlay.specs.Unspanned.{unspan_object}
use Rattle.overlay.specs.Profiles.{ProfileTree, profile_tree}
use Rattle.overlay.proofs.ResultLaws.{overlay_alike, overlay_bare, overlay_object, overlay_profile}
use Rattle.overlay.specs.Promise.{Laying, laid_holds, one_given}

module _ {lower : List ℕ} {m : ℕ} {lowerText upper : List ℕ} {n : ℕ} {upperText : List ℕ} where
  -- the tables hold one tree each, spans aside
  same_given : (t t' u u' : Tree) → HoldsObject lower m lowerText t → HoldsObject lower m lowerText t' → HoldsObject upper n upperText u → HoldsObject upper n upperText u'
      → overlay t u ≡ overlay t' u'
  same_given t t' u u' p q i j = overlay_alike t t' u u' (sound_tree lower m lowerText t t' p.holds q.holds) (sound_tree upper n upperText u u' i.holds j.holds)

  -- so the answer is that of any two trees that they hold
  pub trees_overlay : {table text : List ℕ} {c v s : ℕ} {table' text' : List ℕ} (t u : Tree) → HoldsObject lower m lowerText t → HoldsObject upper n upperText u
      → Overlaid lower m lowerText upper n upperText table text c v s table' text' → Given table text (overlay t u) c v s table' text'
  trees_overlay {table} {text} {c} {v} {s} {table'} {text'} t u p i (gives t' u' q j g) =
      subst (λ (l : Laid). Given table text l c v s table' text') (same_given t' t u' u q p j i) g
  trees_overlay t u p i (bad_lower x) = absurd (x t p)
  trees_overlay t u p i (bad_upper x) = absurd (x u i)

  pub one_overlay : {table text : List ℕ} {c v s c₂ v₂ s₂ : ℕ} {table' text' table'' text'' : List ℕ} → Overlaid lower m lowerText upper n upperText table text c v s table' text'
      → Overlaid lower m lowerText upper n upperText table text c₂ v₂ s₂ table'' text'' → (c ≡ c₂) × (v ≡ v₂) × (s ≡ s₂) × (table' ≡ table'') × (text' ≡ text'')
  one_overlay {table} {text} {c₂ = c} {v₂ = v} {s₂ = s} {table'' = table''} {text'' = text''} (gives t u p i g) (gives t' u' q j h) =
      one_given g (subst (λ (l : Laid). Given table text l c v s table'' text'') (sym (same_given t t' u u' p q i j)) h)
  one_overlay (gives t u p i g) (bad_lower x) = absurd (x t p)
  one_overlay (gives t u p i g) (bad_upper x) = absurd (x u i)
  one_overlay (bad_lower x) (gives t u p i g) = absurd (x t p)
  one_overlay (bad_lower x) (bad_lower y) = (refl, refl, refl, refl, refl)
  one_overlay (bad_lower x) (bad_upper y) = (refl, refl, refl, refl, refl)
  one_overlay (bad_upper x) (gives t u p i g) = absurd (x u i)
  one_overlay (bad_upper x) (bad_lower y) = (refl, refl, refl, refl, refl)
  one_overlay (bad_upper x) (bad_upper y) = (refl, refl, refl, refl, refl)

module _ {lower : List ℕ} {m : ℕ} {lowerText upper : List ℕ} {n : ℕ} {upperText table text : List ℕ} where
  holds_given : {l : Laid} {c v s : ℕ} {table' text' : List ℕ} (t u : Tree) → HoldsObject lower m lowerText t → HoldsObject upper n upperText u → overlay t u ≡ l
      → Given table text l c v s table' text' → c ≡ 0 → Laying lower m lowerText upper n upperText table' v text'
  holds_given t u p i e (fits r h k) z =
      let o = overlay_profile t u e (profile_tree p.holds.profile) (profile_tree i.holds.profile) in
      let a = sym o.alike ∙ overlay_bare t u e in
      record {
        under = t;
        above = u;
        tree = o.tree;
        under_held = p;
        above_held = i;
        overlaid = e ∙ ap laid (sym a);
        held =
            record {
              holds = laid_holds r o table text h k;
              object = sym (unspan_object o.tree) ∙ (ap is_object a ∙ overlay_object t u e p.object i.object);
            };
      }
  holds_given t u p i e clashed z = absurd (omega arith)
  holds_given t u p i e (rows r h) z = absurd (omega arith)
  holds_given t u p i e (bytes r h k) z = absurd (omega arith)

  pub overlay_holds : {c v s : ℕ} {table' text' : List ℕ} → Overlaid lower m lowerText upper n upperText table text c v s table' text' → c ≡ 0
      → Laying lower m lowerText upper n upperText table' v text'
  overlay_holds (gives t u p i g) z = holds_given t u p i refl g z
  overlay_holds (bad_lower x) z = absurd (omega arith)
  overlay_holds (bad_upper x) z = absurd (omega arith)

  pub overlay_sound : {c v s : ℕ} {table' text' : List ℕ} → Overlaid lower m lowerText upper n upperText table text c v s table' text' → c ≡ 0 → Sound table' v text'
  overlay_sound x z = let l = overlay_holds x z in record { tree = l.tree; holds = l.held.holds }
