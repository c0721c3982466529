-- THE LOG (`Holds`) of keys of a document, and what is told of it (`Told`): its keys stand at their places, and the first that has an earlier one is the first that is named twice. Assumes nothing.
use Rattle.std.specs.Prelude.{◌≡◌, ℕ, ◌+◌, ◌*◌, ◌<◌, ◌≤◌, List, ◌∷◌, length, drop, replicate, slice_index, slice_index_or, Option, None}
use Rattle.std.proofs.Common.{sym, subst, ◌∙◌, zero-add, arith, rules}
use Rattle.std.proofs.lemmas.List.{length-replicate}
use Rattle.language.specs.Tree.{Tree, count, Repeats}
use Rattle.language.specs.Document.{Document}
use Rattle.language.specs.Answered.{limit, deepest}
use Rattle.notes.specs.Flat.{Named, named, flat}
use Rattle.notes.specs.Lie.{Keys, keys_none, keys_more}
use Rattle.notes.specs.Notes.{Kept}
use Rattle.repeats.specs.Flat.{Twice}
use Rattle.repeats.specs.Repeating.{repeats_twice, twice_repeats}
use Rattle.repeats.specs.Later.{Names, names_map, Later, names_few, zeros}
use Rattle.repeats.proofs.TwiceLaws.{later_twice, twice_later_key}
use Rattle.places.specs.Places.{place_keys, most_keys, Placed}
use Rattle.places.specs.Chosen.{chosen, left_out, chosen_some, chosen_few, some_keys, windows, chosen_windows, left_windows, windows_all}
use Rattle.places.specs.Sifted.{took_plain}
use Rattle.notes.specs.Noted.{noteds}
use Rattle.places.specs.Words.{Words, Room, Counted, noteds_counted}
use Rattle.places.specs.Spots.{lists_words, spots, spots_order}

-- the log holds these keys
pub record Holds (doc keys : List ℕ) (ns : List Named) : Type 0 where
  pub short : length doc ≤ limit
  pub counts : slice_index_or keys 0 0 ≡ count ns
  pub room : 4 + 2 * count ns ≤ length keys
  pub few : count ns ≤ most_keys
  pub words : Words keys (count ns) 0 ns
  pub lie : Keys doc 0 ns (length doc)

-- the least place of a key in the log that is the same as an earlier one there
abbrev pub Told : List ℕ → List ℕ → Option ℕ → Type 0
Told doc keys r = Names (Later (place_keys doc keys) (slice_index keys 0)) r

module _ (doc keys : List ℕ) where
  pub told_few : (n : ℕ) → n ≡ slice_index keys 0 → n < 2 → Told doc keys None
  told_few n e l = names_few (place_keys doc keys) (slice_index keys 0) (omega arith)

  pub told_all : (n : ℕ) → n ≡ slice_index keys 0 → (r : Option ℕ) → Names (Later (place_keys doc keys) n) r → Told doc keys r
  told_all n e r x = rw e at x

  pub told_placed : (n : ℕ) → n ≡ slice_index keys 0 → Placed doc keys (slice_index keys 0) → Placed doc keys n
  told_placed n e x = rw e x

  pub told_room : Placed doc keys (slice_index keys 0) → 0 < length keys
  told_room x = omega (arith, x.room)

pub ruleset telling = (told_few, told_all, told_placed, told_room, rules)

module _ (doc keys : List ℕ) (ns : List Named) (g : Holds doc keys ns) where
  pub holds_placed : Placed doc keys (slice_index keys 0)
  holds_placed =
      rw g.counts
      (record {
        short = g.short;
        room = g.room;
        few = g.few;
        key = λ i l. (spots doc keys (count ns) (length doc) 0 0 ns g.words g.lie i (omega arith) l).key;
        order = λ k i h l. spots_order doc keys (count ns) (length doc) 0 0 ns g.words g.lie k i (omega arith) h l;
      })

  -- the first key that is named twice, if there is one
  pub holds_told : (r : Option ℕ) → Told doc keys r → Names (λ p. Twice p ns) r
  holds_told r x =
      let l = lists_words doc keys (count ns) (length doc) 0 0 ns g.words g.lie in
      names_map
      (λ p v. later_twice (place_keys doc keys) (count ns) ns l p v)
      (λ p v. twice_later_key (place_keys doc keys) (count ns) ns l p v)
      r
      (rw g.counts at x)

-- ---- from a room that was empty

-- each key has a byte of its own
pub keys_count : {doc : List ℕ} {a e : ℕ} (ns : List Named) → Keys doc a ns e → a + count ns ≤ e
keys_count _ (keys_none h) = omega arith
keys_count (named q b s ∷ ns) (keys_more h k y) = let z = keys_count ns y in omega (arith, k.ahead)

-- the room S was emptied, and passes w keys by before the first it takes, and g once half of it is full
module _ (doc S keys : List ℕ) (ks : List Named) (h w g : ℕ) (x : Room S h 0 w g 0) (f : h + h ≤ most_keys) (l : length doc ≤ limit) (e : keys ≡ noteds S ks) (k : Keys doc 0 ks (length doc)) where
  counted : Counted S h 0 0 (chosen h g w 0 ks) (left_out h g w 0 ks) keys
  counted = let c = keys_count ks k in rw e (noteds_counted S h g w 0 0 ks x (omega arith) (omega arith))

  takes : Holds doc keys (chosen h g w 0 ks)
  takes =
      let c = counted in
      let m = chosen_few h g w 0 ks (omega arith) in
      record {
        short = l;
        counts = c.counts ∙ zero-add (count (chosen h g w 0 ks));
        room = omega (arith, c.long);
        few = omega arith;
        words = subst (λ (n : ℕ). Words keys n 0 (chosen h g w 0 ks)) (zero-add (count (chosen h g w 0 ks))) c.words;
        lie = some_keys (chosen_some h g w 0 ks) k;
      }

-- half a room of keys from the i-th on, and half a room from the j-th on; those behind are counted
pub record Windowed (doc keys : List ℕ) (ks : List Named) (h i j : ℕ) : Type 0 where
  pub holds : Holds doc keys (windows h i j ks)
  pub left : slice_index_or keys 3 0 ≡ count (drop h (drop j ks))
  pub long : length keys ≡ 4 + 4 * h

pub windowed : (doc S keys : List ℕ) (ks : List Named) (h i j g : ℕ) → Room S h 0 i g 0 → 0 < h → h + h ≤ most_keys → i + h + g ≡ j → length doc ≤ limit
    → keys ≡ noteds S ks → Keys doc 0 ks (length doc) → Windowed doc keys ks h i j
windowed doc S keys ks h i j g x o f e l u k =
    record {
      holds = subst (Holds doc keys) (chosen_windows h i j g ks o e) (takes doc S keys ks h i g x f l u k);
      left = (counted doc S keys ks h i g x f l u k).left ∙ (zero-add _ ∙ left_windows h i j g ks o e);
      long = (counted doc S keys ks h i g x f l u k).long;
    }

-- .. in a small room, after a pass over a document
pub windowed_plain : (doc S keys : List ℕ) (ks : List Named) (h i j g : ℕ) → Room S h 0 i g 0 → 0 < h → h + h ≤ most_keys → i + h + g ≡ j → length doc ≤ limit
    → Kept doc 0 ks (length doc) S keys → Windowed doc keys ks h i j
windowed_plain doc S keys ks h i j g x o f e l k = windowed doc S keys ks h i j g x o f e l (took_plain k.log (λ n. omega (arith, x.long))) k.lie

-- a room of nothing but zeros takes the first keys
pub room_first : (n h : ℕ) → n ≡ 4 + 4 * h → Room (replicate n 0) h 0 0 0 0
room_first n h e = record { long = length-replicate {A = ℕ} n 0 ∙ e; counts = zeros n 0; waits = zeros n 1; between = zeros n 2; left = zeros n 3 }

-- THE LOG OF A DOCUMENT: all keys of its tree
pub record Log (doc keys : List ℕ) : Type 0 where
  pub tree : Tree
  pub word : Document deepest doc tree
  pub holds : Holds doc keys (flat 0 0 tree)

-- "the smallest start of a later equal key" (01, Numbers of refusal), if the tree whose keys are noted has one
pub names_tree : (t : Tree) (r : Option ℕ) → Names (λ p. Twice p (flat 0 0 t)) r → Names (λ p. Repeats p t) r
names_tree t r x = names_map (λ p v. twice_repeats 0 0 t (omega arith) v) (λ p v. repeats_twice 0 0 t v) r x

module _ (doc keys : List ℕ) (g : Log doc keys) where
  pub log_placed : Placed doc keys (slice_index keys 0)
  log_placed = holds_placed doc keys (flat 0 0 g.tree) g.holds

  pub log_told : (r : Option ℕ) → Told doc keys r → Names (λ p. Repeats p g.tree) r
  log_told r x = names_tree g.tree r (holds_told doc keys (flat 0 0 g.tree) g.holds r x)

-- where none is left out, the log has all keys
pub holds_whole : (doc keys : List ℕ) (ks : List Named) (h : ℕ) → Windowed doc keys ks h 0 h → slice_index keys 3 ≡ 0 → Holds doc keys ks
holds_whole doc keys ks h x e = subst (Holds doc keys) (windows_all h ks (sym x.left ∙ e)) x.holds
