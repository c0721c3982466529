-- THE KEYS OF THE RESULT in their order (`overlay_keys`): the lower's, then the upper's new ones. Assumes nothing.
use Rattle.std.specs.Prelude.{◌≡◌, refl, List, [], ◌∷◌, ◌++◌, Bool, true, false, ℕ}
use Rattle.std.proofs.Common.{ap, ap₂, ◌∙◌}
use Rattle.notation.specs.Class.{pick, or}
use Rattle.language.specs.Tree.{Tree, Field, field, text_of}
use Rattle.language.specs.Alike.{unspan}
use Rattle.overlay.specs.Overlay.{is_object, pairs, same, Value, value, absent, at, value_of, new_ones, laid, overlay}
use Rattle.overlay.specs.Lists.{mended, laid_pairs}
use Rattle.overlay.proofs.ListsLaws.{over_pairs}
use Rattle.overlay.specs.Unspanned.{unspan_text, unspan_object, bare, bare_pairs_lem}
use Rattle.overlay.proofs.ResultLaws.{overlay_over}
use Rattle.overlay.specs.Keys.{keys, keys_in, keys_laid, keys_unspan, new_keys}

-- THE LAW: "Keys keep the lower's order, then the upper's new ones"
pub overlay_keys : (t u r : Tree) → is_object t ≡ true → is_object u ≡ true → overlay t u ≡ laid r → keys r ≡ keys t ++ new_keys (keys t) (keys u)
overlay_keys t u r p q e =
    ap keys (overlay_over t u e).1
    ∙ (ap keys_in (over_pairs (unspan t) (unspan u) (unspan_object t ∙ p) (unspan_object u ∙ q))
    ∙ (keys_laid (pairs (unspan t)) (pairs (unspan u)) ∙ ap₂ (λ (a b : List (List ℕ)). a ++ new_keys a b) (keys_unspan t) (keys_unspan u)))
