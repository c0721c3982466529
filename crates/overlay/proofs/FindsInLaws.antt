-- FINDING A KEY IN THE RESULT'S TABLE (`overlay_found`): `find` in its row 0 answers the row of the upper's value, or of the lower's where the upper has none, or of the two laid over each other. Assumes nothing.
use Rattle.std.specs.Prelude.{◌≡◌, refl, List, [], ◌∷◌, ◌++◌, true, false, ℕ, ◌+◌, ◌*◌, ◌≤◌, length, drop, Some, None, Ok, Err}
use Rattle.std.proofs.Common.{subst, arith, length-append}
use Rattle.language.specs.Kind.{OBJECT}
use Rattle.language.specs.Tree.{Tree, node, Forest, width, unlined, size, text_of, rows_of}
use Rattle.language.specs.Alike.{unspan}
use Rattle.language.specs.Lent.{words_in, bytes_in}
use Rattle.questions.specs.Walk as questions
use Rattle.questions.specs.Walk.{Found}
use Rattle.rooms.specs.Forest.{length_rows}
use Rattle.found.specs.Objects.{RowOf, own, Pair, pair, Pairs, no_pair, one_pair, ObjectAt, object_at, Holds, held, held_later, NoKey}
use Rattle.found.specs.Stands.{stands_first}
use Rattle.found.proofs.RootedLaws.{value_row}
use Rattle.found.specs.Find.{Filled, Answers, answers}
use Rattle.found.proofs.FindLaws.{find_value}
use Rattle.exact.specs.Class.{clash}
use Rattle.shaped.specs.Shaped as shaped
use Rattle.shaped.specs.Shaped.{Shaped, shaped_leaf, shaped_array, shaped_object}
use Rattle.sound.specs.Members.{Sane}
use Rattle.overlay.specs.Overlay.{is_object, Laid, laid, overlay}
use Rattle.overlay.specs.Overlaid.{HoldsObject, Given, fits, clashed, rows, bytes, Overlaid, gives, bad_lower, bad_upper}
use Rattle.overlay.specs.Profiles.{profile_tree, profile_sane}
use Rattle.overlay.proofs.ResultLaws.{overlay_object, overlay_sane}
use Rattle.overlay.specs.Finds.{Property, here, later, Finds, finds, Lacks, KeyOver, lower_only, upper_only, both_others, both_objects, neither}
use Rattle.overlay.proofs.FindsLaws.{finds_one, overlay_finds}
use Rattle.overlay.specs.FindsIn.{FoundIn, FoundOver, Listed, Rooted, found_lower, found_none, found_objects, found_others, found_upper, holds_property, laid_filled, listed, property_holds}

rooted : {k : ℕ} {r : Tree} → Shaped k r → is_object r ≡ true → Rooted r
rooted (shaped_leaf x) o = absurd (clash o refl)
rooted (shaped_array x) o = absurd (clash o refl)
rooted (shaped_object {a = a} {e = e} {n = n} {ts = ts} x) o =
    record { list = l.list; at = object_at own l.pairs; to = λ h. finds (holds_property l.pairs h); of = λ h. back h }
  where
    l : Listed 1 ts
    l = listed 1 x

    back : {s : List ℕ} {v : Tree} → Finds s v (node OBJECT a e n ts) → (i : ℕ) × Holds s i v l.list
    back (finds p) = property_holds l.pairs p

module _ (t u r : Tree) (s : List ℕ) (over : KeyOver t u r s) {k : ℕ} (sane : Sane k r) (root : Rooted r) where
  at_row : (i : ℕ) (v : Tree) → Holds s i v root.list → FoundOver t u r s (Ok (Some (record { 0 = i })))
  at_row i v h = by over
    where
      row : {w : Tree} → Finds s w r → RowOf i w 0 r
      row g = subst (λ (z : Tree). RowOf i z 0 r) (finds_one r sane s (root.to h) g) (value_row root.at h)

      by : KeyOver t u r s → FoundOver t u r s (Ok (Some (record { 0 = i })))
      by (lower_only w p n g) = found_lower w p n (row g)
      by (upper_only w n q g) = found_upper w n q (row g)
      by (both_others a b p q i j g) = found_others a b p q i j (row g)
      by (both_objects a b x p q i j e g) = found_objects a b x p q i j e (row g)
      by (neither p q n) = absurd (n v (root.to h))

  at_none : NoKey root.list s → FoundOver t u r s (Ok None)
  at_none z = by over
    where
      missing : {w : Tree} → Finds s w r → ⊥
      missing {w} g = let h = root.of g in z h.0 (record { value = w; holds = h.1 })

      by : KeyOver t u r s → FoundOver t u r s (Ok None)
      by (lower_only w p n g) = absurd (missing g)
      by (upper_only w n q g) = absurd (missing g)
      by (both_others a b p q i j g) = absurd (missing g)
      by (both_objects a b x p q i j e g) = absurd (missing g)
      by (neither p q n) = found_none p q

  answered : (f : Found) → Answers f root.list s → FoundOver t u r s f
  answered (Ok (Some row)) a = let z = (a.at {i = row.0}).0 refl in at_row row.0 z.value z.holds
  answered (Ok None) a = at_none (a.missing.0 refl)
  answered (Err _) a = absurd (a.sure refl)

module _ {lower : List ℕ} {m : ℕ} {lowerText upper : List ℕ} {n : ℕ} {upperText table text : List ℕ} where
  found_given : {l : Laid} {c v s : ℕ} {table' text' : List ℕ} (t u : Tree) → HoldsObject lower m lowerText t → HoldsObject upper n upperText u → overlay t u ≡ l
      → Given table text l c v s table' text' → c ≡ 0 → FoundIn lower m lowerText upper n upperText table' v text'
  found_given t u p i e (fits r h k) z =
      let x = overlay_sane t u e (profile_sane p.holds.profile) (profile_sane i.holds.profile) in
      let root = rooted x.shaped (overlay_object t u e p.object i.object) in
      let filled = laid_filled r table text h k in
      record {
        under = t;
        above = u;
        result = r;
        under_held = p;
        above_held = i;
        overlaid = e;
        filled = filled;
        found =
            λ s f g. answered t u r s (overlay_finds t u r (profile_tree p.holds.profile) (profile_tree i.holds.profile) p.object i.object e s) x root f
            (answers f g (find_value filled x.once root.at s));
      }
  found_given t u p i e clashed z = absurd (omega arith)
  found_given t u p i e (rows r h) z = absurd (omega arith)
  found_given t u p i e (bytes r h k) z = absurd (omega arith)

  pub overlay_found : {c v s : ℕ} {table' text' : List ℕ} → Overlaid lower m lowerText upper n upperText table text c v s table' text' → c ≡ 0
      → FoundIn lower m lowerText upper n upperText table' v text'
  overlay_found (gives t u p i g) z = found_given t u p i refl g z
  overlay_found (bad_lower x) z = absurd (omega arith)
  overlay_found (bad_upper x) z = absurd (omega arith)
