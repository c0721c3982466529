-- The loop over the members of a container: its invariant, its start, a turn with the keys that it notes, and its ways out.
use mathlib.Core.Path.{◌≡◌, refl, sym, ap, ◌∙◌}
use mathlib.Core.List.{List, [], ◌∷◌, ◌++◌}
use mathlib.Core.Bool.{Bool}
use Prim.Native.Nat.{ℕ, ◌+◌, ◌≤◌, ◌<◌}
use native.Mathlib.Omega.{arith}
use lib.ListN.{length, drop}
use Rattle.language.specs.Tree.{Tree, forest, count}
use Rattle.exact.specs.Out.{Reader, fmap, ok, bad}
use Rattle.exact.specs.Answers.{fmap_none, fmap_join}
use Rattle.exact.specs.Place.{peek, peek_in, list_r, list_n, bounded, list_more, list_last, list_comma, list_other, list_bad}
use Rattle.rooms.specs.declared.Cursor.{Cursor}
use Rattle.rooms.specs.Contract.{Ready}
use Rattle.notes.specs.Flat.{flats}
use Rattle.notes.specs.Notes.{Kept, Notes, kept_none, kept_wide, kept_trees, kept_known}
use Rattle.inline.specs.Brackets.{opens, closes, Member, children, members, member_r, closes_small, closes_other, opens_small, children_none, children_append, count_then}
use Rattle.inline.specs.Written.{Written, written_none, written_append}
use Rattle.inline.specs.Contract.{within, Fails, no_first, no_second, Read, Goes, Ends, Stops, no_member, no_part}

-- At the loop's head: `done` has been read and written, its keys are noted, and what is left is read from the cursor, with a bound that is enough for it.
pub record Loop (o : Bool) (r : Reader Tree) (doc : List ℕ) (c : Cursor) (R₀ T₀ S₀ R T S : List ℕ) (cur : Cursor) (cnt : ℕ) : Type 0 where
  pub from : Ready doc c
  pub opened : peek doc c.at ≡ opens o
  pub listed : peek doc (c.at + 1) ≡ closes o → ⊥
  pub bound : ℕ
  pub done : List (Member o)
  pub rest : list_r (closes o) (member_r o r) (c.at + 1) (drop (c.at + 1) doc)
      ≡ fmap (done ++◌) (list_n (closes o) (member_r o r) bound cur.at (drop cur.at doc))
  pub enough : (m : Member o) (a : ℕ) → member_r o r cur.at (drop cur.at doc) ≡ ok m a (drop a doc) → cur.at ≤ a → length doc ≤ bound + a
  pub counted : cnt ≡ count done
  pub written : Written doc (within c) cur c.row (children o done) R₀ R T₀ T
  pub kept : Kept doc (c.at + 1) (flats (c.row + 1) c.row (forest (children o done))) cur.at S₀ S
  pub ready : Ready doc cur
  pub few : cnt ≤ cur.at

pub none_kept : (o : Bool) (doc : List ℕ) (at a row parent : ℕ) (S : List ℕ) → at ≤ a → Kept doc at (flats row parent (forest (children o []))) a S S
unfolding flats
none_kept o doc at a row parent S h = rw (children_none o) (kept_none doc at a S h)

module _ (o : Bool) (r : Reader Tree) (doc : List ℕ) (c : Cursor) (R₀ T₀ S₀ : List ℕ) where
  pub loop_start : Ready doc c → peek doc c.at ≡ opens o → (peek doc (c.at + 1) ≡ closes o → ⊥) → Loop o r doc c R₀ T₀ S₀ R₀ T₀ S₀ (within c) 0
  loop_start d h z =
      let b = bounded (closes o) (member_r o r) doc (c.at + 1) in
      let i = peek_in doc c.at (opens o) (sym h) (opens_small o) in
      record {
        from = d;
        opened = h;
        listed = z;
        bound = b.bound;
        done = [];
        rest = b.same ∙ sym (fmap_none (list_n (closes o) (member_r o r) b.bound (c.at + 1) (drop (c.at + 1) doc)));
        enough = λ m a e l. b.enough m a e;
        counted = refl;
        written = rw (children_none o) (written_none doc (within c) (within c) c.row R₀ T₀ (omega arith) (omega arith) refl refl);
        kept = none_kept o doc (c.at + 1) (c.at + 1) (c.row + 1) c.row S₀ (omega arith);
        ready = record { small = d.small; inside = omega arith; few_rows = omega (arith, d.few_rows); few_text = omega (arith, d.few_text); few_escapes = omega (arith, d.few_escapes) };
        few = omega arith;
      }

  enough_for : {R T S : List ℕ} {cur : Cursor} {cnt : ℕ} (l : Loop o r doc c R₀ T₀ S₀ R T S cur cnt) (m : Member o) (a : ℕ) → member_r o r cur.at (drop cur.at doc) ≡ ok m a (drop a doc)
      → cur.at < a → length doc ≤ l.bound + a
  enough_for l m a e h = l.enough m a e (omega arith)

  module _ (R T S R' T' : List ℕ) (cur n : Cursor) (cnt : ℕ) (l : Loop o r doc c R₀ T₀ S₀ R T S cur cnt) where
    pub written_more : (g : Read o doc cur c.row (member_r o r) n R R' T T') → Written doc (within c) n c.row (children o (l.done ++ g.member ∷ [])) R₀ R' T₀ T'
    written_more g =
        rw (children_append o)
        (written_append doc (within c) cur n c.row (children o l.done) (children o (g.member ∷ [])) R₀ R R' T₀ T T' l.written g.written)

    -- the keys of one member more
    pub kept_more : (S' : List ℕ) (g : Read o doc cur c.row (member_r o r) n R R' T T') → g.after ≤ n.at
        → Notes (members o) doc cur.at cur.row c.row (member_r o r cur.at (drop cur.at doc)) S S'
        → Kept doc (c.at + 1) (flats (c.row + 1) c.row (forest (children o (l.done ++ g.member ∷ [])))) n.at S₀ S'
    kept_more S' g h x =
        let z : cur.at ≤ cur.at = omega arith in
        let k = kept_wide z h (kept_known x 0 g.member g.after (drop g.after doc) g.is) in
        rw (children_append o) (kept_trees (c.row + 1) c.row (children o l.done) (children o (g.member ∷ [])) l.kept (rw l.written.row at k))

    pub loop_more : (S' : List ℕ) → Goes o doc cur c.row (member_r o r) n R R' T T'
        → Notes (members o) doc cur.at cur.row c.row (member_r o r cur.at (drop cur.at doc)) S S' → Loop o r doc c R₀ T₀ S₀ R' T' S' n (cnt + 1)
    loop_more S' q x =
        let g = q.read in
        let w = g.written in
        let m = list_more (closes o) (closes_small o) (closes_other o) (member_r o r) doc cur.at g.after g.member g.is l.bound (enough_for l g.member g.after g.is g.ahead) q.comma q.space in
        let k = count_then l.done g.member in
        record {
          from = l.from;
          opened = l.opened;
          listed = l.listed;
          bound = m.0;
          done = l.done ++ g.member ∷ [];
          rest = rw q.to (l.rest ∙ (ap (fmap (l.done ++◌)) m.1 ∙ fmap_join l.done (g.member ∷ []) (list_n (closes o) (member_r o r) m.0 (g.after + 2) (drop (g.after + 2) doc))));
          enough = λ v a e h. omega (arith, m.2, q.to);
          counted = omega (arith, l.counted);
          written = written_more g;
          kept = kept_more S' g (omega (arith, q.to)) x;
          ready =
              record {
                small = l.ready.small;
                inside = w.inside;
                few_rows = omega (arith, w.row, l.ready.few_rows, w.few_rows);
                few_text = omega (arith, w.text, l.ready.few_text, w.few_text);
                few_escapes = omega (arith, w.escapes, l.ready.few_escapes, w.few_escapes);
              };
          few = omega (arith, l.few, g.ahead, q.to);
        }

    pub loop_last : (q : Ends o (closes o) doc cur c.row (member_r o r) n R R' T T')
        → list_r (closes o) (member_r o r) (c.at + 1) (drop (c.at + 1) doc) ≡ ok (l.done ++ q.read.member ∷ []) n.at (drop n.at doc)
    loop_last q =
        let g = q.read in
        rw q.to
        (l.rest ∙ ap (fmap (l.done ++◌)) (list_last (closes o) (closes_small o) (closes_other o) (member_r o r) doc cur.at g.after g.member g.is l.bound q.closed))

    parts : (m : Member o) (a p : ℕ) → member_r o r cur.at (drop cur.at doc) ≡ ok m a (drop a doc) → cur.at < a → (peek doc a ≡ closes o → ⊥) → Fails doc a 44 32 p
        → list_n (closes o) (member_r o r) l.bound cur.at (drop cur.at doc) ≡ bad p
    parts m a _ h u z (no_first e) = list_other (closes o) (closes_small o) (closes_other o) (member_r o r) doc cur.at a m h l.bound e z
    parts m a _ h u z (no_second e f) = list_comma (closes o) (closes_small o) (closes_other o) (member_r o r) doc cur.at a m h l.bound (enough_for l m a h u) e f

    pub loop_stops : (p : ℕ) → Stops o (closes o) doc cur.at (member_r o r) p → list_r (closes o) (member_r o r) (c.at + 1) (drop (c.at + 1) doc) ≡ bad p
    loop_stops p (no_member h) = l.rest ∙ ap (fmap (l.done ++◌)) (list_bad (closes o) (member_r o r) cur.at (drop cur.at doc) p l.bound h)
    loop_stops p (no_part m a h u z f) = l.rest ∙ ap (fmap (l.done ++◌)) (parts m a p h u z f)
