-- THE KEYS OF AN OBJECT WHOSE CONTENT IS CUT, one behind another by their places (`all_keys`): no two have one text exactly if the object's keys are distinct (`keys_apart`). Assumes nothing.
use Rattle.std.specs.Prelude.{◌≡◌, List, ◌++◌, Bool, true, false, ℕ, ◌+◌, ◌≤◌, ◌<◌, length}
use Rattle.std.proofs.Math.Path.{refl, sym}
use Rattle.std.proofs.Common.{arith}
use Rattle.std.proofs.Math.ListN.{length-append}
use Rattle.language.specs.Lent.{lent}
use Rattle.language.specs.Kind.{KEY}
use Rattle.language.specs.Tree.{Decoded, Tree, leaf, Forest, more}
use Rattle.shaped.specs.Shaped.{Shaped, Pairs, pairs_none, pairs_more}
use Rattle.stored.specs.Form.{PART, tag, cut, content, forms, form}
use Rattle.stored.specs.Bytes.{At, at_left, at_right, at_place}
use Rattle.distinct.specs.Roads.{Road}
use Rattle.distinct.specs.Roads as roads
use Rattle.distinct.specs.Windows.{Open}
use Rattle.views.specs.Views.{viewed}
use Rattle.views.specs.Spans.{Lies}
use Rattle.uncut.specs.Keys.{Along, along_none, along_more}
use Rattle.wide.specs.Cut.{sane_true}
use Rattle.wide.specs.Keys.{Keys, Counted, ApartTold}
use Rattle.cutkeys.specs.Places.{end_of, text_at, beyond, end_after, end_of_lem, text_of}

-- a field stands at a place, before `stop`
pub record Stands (v : List ℕ) (stop p : ℕ) : Type 0 where
  pub kind : ℕ
  pub inner : List ℕ
  pub here : At v p (cut kind inner)
  pub true_tag : kind ≡ PART → ⊥
  pub below : p + length (cut kind inner) ≤ stop

pub stands_low : {v : List ℕ} {stop p : ℕ} → Stands v stop p → p ≤ stop
stands_low s = omega (arith, s.below)

pub stands_end : {v : List ℕ} {stop p : ℕ} → Stands v stop p → end_of v p ≤ stop
stands_end {v} s = omega (arith, end_of_lem v s.kind s.inner s.true_tag s.here, s.below)

module _ (stored starts : List ℕ) (d : ℕ) where
  -- few stored bytes, and a content in them that is at least as long
  pub record Framed (stop : ℕ) : Type 0 where
    pub deep : d < 34
    pub few : length stored ≤ lent
    pub fits : stop ≤ length (viewed stored starts d)

  -- a key's field, with a field behind it
  pub record Keyed (stop p : ℕ) : Type 0 where
    pub frame : Framed stop
    pub key : Stands (viewed stored starts d) stop p
    pub value : Stands (viewed stored starts d) stop (end_of (viewed stored starts d) p)

  -- the keys of an object whose content ends at `stop`, by their places
  abbrev pub all_keys : ℕ → Road
  all_keys stop =
      record {
        stop = stop;
        next = beyond (viewed stored starts d);
        text = text_at (viewed stored starts d);
        Good = Keyed stop;
        onward = λ p k. omega (arith, end_after (viewed stored starts d) p, end_after (viewed stored starts d) (end_of (viewed stored starts d) p));
        below = λ p k. stands_end k.value;
      }

  abbrev v : List ℕ
  v = viewed stored starts d

  module _ (p stop k a e : ℕ) (b : Decoded) (u : Tree) (ts : Forest) (y : Shaped k u) (h : At v p (forms (more (leaf KEY a e b) (more u ts)))) (t : p + length (forms (more (leaf KEY a e b) (more u ts))) ≡ stop) (f : Framed stop) where
    key_at : At v p (form (leaf KEY a e b))
    unfolding content
    key_at = at_left v (form (leaf KEY a e b)) (form u ++ forms ts) h

    no_part : KEY ≡ PART → ⊥
    no_part i = omega arith

    key_end : end_of v p ≡ p + length (form (leaf KEY a e b))
    key_end = end_of_lem v KEY (content (leaf KEY a e b)) no_part key_at

    behind_at : At v (end_of v p) (form u ++ forms ts)
    unfolding content
    behind_at = at_place (sym key_end) (at_right v (form (leaf KEY a e b)) (form u ++ forms ts) refl h)

    value_at_lem : At v (end_of v p) (form u)
    value_at_lem = at_left v (form u) (forms ts) behind_at

    value_end : beyond v p ≡ end_of v p + length (form u)
    value_end = end_of_lem v (tag u) (content u) (sane_true y) value_at_lem

    rest_at : At v (beyond v p) (forms ts)
    rest_at = at_place (sym value_end) (at_right v (form u) (forms ts) refl behind_at)

    rest_total : beyond v p + length (forms ts) ≡ stop
    unfolding content
    rest_total = omega (arith, key_end, value_end, length-append (form (leaf KEY a e b)) (form u ++ forms ts), length-append (form u) (forms ts))

    key_text : b.bytes ≡ text_at v p
    unfolding content
    key_text = sym (text_of v KEY (content (leaf KEY a e b)) no_part key_at)

    keyed : Keyed stop p
    keyed =
        record {
          frame = f;
          key = record { kind = KEY; inner = content (leaf KEY a e b); here = key_at; true_tag = no_part; below = omega (arith, key_end, value_end, rest_total) };
          value = record { kind = tag u; inner = content u; here = value_at_lem; true_tag = sane_true y; below = omega (arith, value_end, rest_total) };
        }

  pairs_along : {k n : ℕ} {ts : Forest} (p stop : ℕ) → Pairs k n ts → At v p (forms ts) → p + length (forms ts) ≡ stop → Framed stop → Along (all_keys stop) p ts
  unfolding content
  pairs_along p stop pairs_none h t f = along_none (all_keys stop) p (omega arith)
  pairs_along p stop (pairs_more {k = k} {a = a} {e = e} {s = b} {v = u} {ts = ts} x y z) h t f =
      along_more (all_keys stop) p a e b u ts y (keyed p stop k a e b u ts y h t f) (key_text p stop k a e b u ts y h t f)
      (pairs_along (beyond v p) stop z (rest_at p stop k a e b u ts y h t f) (rest_total p stop k a e b u ts y h t f) f)

  keys_along : {stop : ℕ} (h : Keys v stop) → Framed stop → Along (all_keys stop) 0 h.trees
  keys_along {stop} h f = pairs_along 0 stop h.pairs h.here (omega (arith, h.total)) f

  -- ---- as `search` takes them

  pub keys_framed : (stop : ℕ) → d < 34 → Lies stored starts d 0 stop → Framed stop
  keys_framed stop l h = record { deep = l; few = h.few; fits = h.inside_view }

  pub keys_open : (stop n : ℕ) → d < 34 → Lies stored starts d 0 stop → Counted v stop n → Open (all_keys stop) 0
  keys_open stop n l h c = let w = keys_along c.keys (keys_framed stop l h) in record { rows = w.rows; walks = w.walks }

  pub keys_apart : (stop : ℕ) → d < 34 → Lies stored starts d 0 stop → (b : Bool) → roads.ApartTold (all_keys stop) 0 b → ApartTold v stop b
  keys_apart stop l i true t h = let w = keys_along h (keys_framed stop l i) in w.distinct (t w.rows w.walks)
  keys_apart stop l i false t h = λ x. let w = keys_along h (keys_framed stop l i) in t w.rows w.walks (w.apart x)
