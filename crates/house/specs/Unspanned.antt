-- THE HOUSE STYLE DOES NOT DEPEND ON SPANS: they, and how texts were escaped, are not written. Assumes nothing.
use Rattle.std.specs.Prelude.{◌≡◌, refl, ℕ, suc}
use Rattle.std.proofs.Common.{sym, ap, ◌∙◌}
use Rattle.language.specs.Tree.{Tree, leaf, node, Forest, none, more}
use Rattle.language.specs.Alike.{unspan, unspans, Alike}
use Rattle.language.specs.House.{is_key, is_none, flat, is_array, inline, inlines, block, items, properties, house}

unspan_key : (t : Tree) → is_key (unspan t) ≡ is_key t
unfolding unspan
unspan_key (leaf k a e s) = refl
unspan_key (node k a e c ts) = refl

unspan_none : (ts : Forest) → is_none (unspans ts) ≡ is_none ts
unfolding unspans
unspan_none none = refl
unspan_none (more t ts) = refl

mutual
  unfolding unspan inline inlines

  inline_unspan : (t : Tree) → inline (unspan t) ≡ inline t
  inline_unspan (leaf k a e s) = refl
  inline_unspan (node k a e c ts) = rw (inlines_unspan ts)

  inlines_unspan : (ts : Forest) → inlines (unspans ts) ≡ inlines ts
  inlines_unspan none = refl
  inlines_unspan (more t ts) = rw (inline_unspan t, inlines_unspan ts, unspan_key t, unspan_none ts)

unspan_flat : (t : Tree) → flat (unspan t) ≡ flat t
unfolding unspan
unspan_flat (leaf k a e s) = refl
unspan_flat (node k a e c ts) = unspan_none ts

unspan_array : (t : Tree) → is_array (unspan t) ≡ is_array t
unfolding unspan
unspan_array (leaf k a e s) = refl
unspan_array (node k a e c ts) = refl

mutual
  unfolding unspan block items properties

  block_unspan : (t : Tree) (n : ℕ) → block n (unspan t) ≡ block n t
  block_unspan (leaf k a e s) n = refl
  block_unspan (node k a e c ts) n = rw (items_unspan ts n, properties_unspan ts n)

  items_unspan : (ts : Forest) (n : ℕ) → items n (unspans ts) ≡ items n ts
  items_unspan none n = refl
  items_unspan (more t ts) n = rw (unspan_flat t, unspan_array t, inline_unspan t, block_unspan t (suc (suc n)), items_unspan ts n)

  properties_unspan : (ts : Forest) (n : ℕ) → properties n (unspans ts) ≡ properties n ts
  properties_unspan none n = refl
  properties_unspan (more t ts) n = rw (unspan_key t, unspan_flat t, inline_unspan t, block_unspan t (suc (suc n)), properties_unspan ts n)

house_unspan : (t : Tree) → house (unspan t) ≡ house t
unfolding house
house_unspan t = rw (unspan_flat t, inline_unspan t, block_unspan t 0)

pub house_alike : (t u : Tree) → Alike t u → house t ≡ house u
house_alike t u e = sym (house_unspan t) ∙ (ap house e ∙ house_unspan u)
