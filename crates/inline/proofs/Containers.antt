-- A container in code: from the bracket to the loop, the loop's ways out, and the container's row, as `search` takes them.
use mathlib.Core.Path.{◌≡◌, refl, sym, ap, ◌∙◌}
use mathlib.Core.List.{List, [], ◌∷◌, ◌++◌}
use mathlib.Core.Bool.{Bool}
use Prim.Native.Nat.{ℕ, ◌+◌, ◌-◌, ◌*◌, ◌<◌}
use native.Mathlib.Omega.{arith}
use lib.ListN.{length, drop}
use lib.Seq.{sets}
use borrow.Author.Rules.{rules}
use Rattle.language.specs.Tree.{unlined, Tree, count, width, row_list}
use Rattle.exact.specs.Class.{is, only}
use Rattle.exact.specs.Out.{Out, Reader, bind, ok, bad}
use Rattle.exact.specs.Lang.{ret_r, byte_r}
use Rattle.exact.specs.Comb.{seq_r}
use Rattle.exact.specs.Ll.{here_r}
use Rattle.exact.specs.Place.{peek, peek_in, byte_is, byte_not, alt_is, alt_not, list_r}
use Rattle.rooms.specs.declared.Cursor.{Cursor}
use Rattle.rooms.specs.declared.Words.{Words}
use Rattle.rooms.specs.Contract.{Ans}
use Rattle.std.specs.declared.result.Result.TheVariants.{Err, Ok}
use Rattle.rooms.specs.Contract.{onward, Takes, Ready, Answers}
use Rattle.rooms.specs.Laws
use Rattle.inline.specs.Contract.{After}
use Rattle.inline.specs.declared.Sep.TheVariants.{More, Last}
use Rattle.inline.specs.Lists.{listed_r}
use Rattle.notes.specs.Notes.{Notes}
use Rattle.inline.specs.Brackets.{opens, closes, kind_of, Member, children, members, member_r, enclosed, bracket_r, closes_small, opens_small, children_none, count_then}
use Rattle.inline.specs.Written.{Written, written_none, node_span, node_filled}
use Rattle.inline.specs.Contract.{Enclosed, Closed, within, Opened, Goes, Ends, Stops, Turned}
use Rattle.inline.proofs.Listing.{Loop, loop_start, written_more, loop_more, loop_last, loop_stops}

-- ---- the bracket

pub bracket_none : (o : Bool) (r : Reader Tree) (doc : List ℕ) (at : ℕ) → (peek doc at ≡ opens o → ⊥) → bracket_r o r at (drop at doc) ≡ bad at
unfolding bracket_r
bracket_none o r doc at n =
    ap (λ (u : Out ℕ). bind u (λ _. seq_r (listed_r (closes o) (member_r o r)) λ ms. seq_r here_r λ e. ret_r (enclosed o at e ms))) (byte_not doc at (opens o) (peek doc at) (opens_small o) refl n)

module _ (o : Bool) (r : Reader Tree) (doc : List ℕ) (at y : ℕ) (h : peek doc at ≡ opens o) (g : y ≡ peek doc (at + 1)) where
  abbrev made : List (Member o) → ℕ → List ℕ → Out Tree
  made ms e = ret_r (enclosed o at e ms) e

  opened : bracket_r o r at (drop at doc) ≡ bind (listed_r (closes o) (member_r o r) (at + 1) (drop (at + 1) doc)) made
  unfolding bracket_r
  opened = ap (λ (u : Out ℕ). bind u (λ _. seq_r (listed_r (closes o) (member_r o r)) made)) (byte_is doc at (opens o) (opens o) (opens_small o) (sym h) refl)

  pub bracket_list : (y ≡ closes o → ⊥) → bracket_r o r at (drop at doc) ≡ bind (list_r (closes o) (member_r o r) (at + 1) (drop (at + 1) doc)) made
  unfolding listed_r
  bracket_list n = opened ∙ ap (λ (u : Out (List (Member o))). bind u made) (alt_not doc (at + 1) (closes o) y (closes_small o) g (seq_r (byte_r (is (only (closes o)))) λ _. ret_r []) (list_r (closes o) (member_r o r)) n)

  pub bracket_empty : y ≡ closes o → bracket_r o r at (drop at doc) ≡ ok (enclosed o at (at + 1 + 1) []) (at + 1 + 1) (drop (at + 1 + 1) doc)
  unfolding listed_r
  bracket_empty n =
      opened
      ∙ (ap (λ (u : Out (List (Member o))). bind u made) (alt_is doc (at + 1) (closes o) y (closes_small o) g (seq_r (byte_r (is (only (closes o)))) λ _. ret_r []) (list_r (closes o) (member_r o r)) n)
      ∙ ap (λ (u : Out ℕ). bind (bind u (λ _. ret_r [])) made) (byte_is doc (at + 1) (closes o) y (closes_small o) g n))

-- ---- behind the bracket

module _ (doc : List ℕ) (c d : Cursor) (x : ℕ) (b : Ans) (op : Opened doc c x b) (e : b ≡ Ok d) where
  pub inner_is : d ≡ within c
  unfolding Opened
  inner_is = (rw e at op).0

  pub opened_at : x ≡ peek doc c.at
  unfolding Opened
  opened_at = (rw e at op).1

  -- a container of nothing
  pub none_fits : (y : ℕ) (k : Ans) (n : Cursor) → Ready doc c → Takes doc d y k → k ≡ Ok n → Enclosed c n 0
  none_fits y k n r t z =
      let u : n ≡ onward (within c) 1 = Laws.take_next doc d y k t n z ∙ ap (λ (m : Cursor). onward m 1) inner_is in
      rw u
      (record {
        first_fits = omega (arith, r.small, r.inside);
        after_fits = omega (arith, r.small, r.inside);
        count_fits = omega arith;
        row_fits = omega (arith, r.small, r.inside, r.few_rows);
        next_fits = omega (arith, r.small, r.inside, r.few_rows);
      })

module _ (o : Bool) (r : Reader Tree) (doc : List ℕ) (c : Cursor) (p : ℕ) (R T : List ℕ) (b : Ans) (op : Opened doc c (opens o) b) where
  pub container_shut : (q : ℕ) → b ≡ Err q → Answers doc c p (bracket_r o r c.at (drop c.at doc)) (Err c.at) R R T T
  unfolding Opened
  container_shut q e = let h : (q ≡ c.at) × (peek doc c.at ≡ opens o → ⊥) = rw e at op in Laws.refused doc c p _ R R T T c.at (bracket_none o r doc c.at h.1)

  module _ (d : Cursor) (e : b ≡ Ok d) (k : Ans) (t : Takes doc d (closes o) k) where
    inner : d ≡ within c
    inner = inner_is doc c d (opens o) b op e

    bracketed : peek doc c.at ≡ opens o
    bracketed = sym (opened_at doc c d (opens o) b op e)

    module _ (n : Cursor) (z : k ≡ Ok n) where
      u : n ≡ onward (within c) 1
      u = Laws.take_next doc d (closes o) k t n z ∙ ap (λ (m : Cursor). onward m 1) inner

      shut : closes o ≡ peek doc (c.at + 1)
      shut = Laws.take_byte doc d (closes o) k t n z ∙ ap (λ (m : Cursor). peek doc m.at) inner

      none_written : Written doc (within c) n c.row (children o []) R R T T
      none_written =
          let i = peek_in doc (c.at + 1) (closes o) shut (closes_small o) in
          rw (children_none o, u) (written_none doc (within c) (onward (within c) 1) c.row R T (omega arith) (omega arith) refl refl)

      pub container_none : (s : Ans) (R' : List ℕ) → Closed c n p 0 (kind_of o) s R R' → Answers doc c p (bracket_r o r c.at (drop c.at doc)) s R R' T T
      container_none s R' x =
          let w = none_written in
          let a : n.at ≡ c.at + 1 + 1 = ap (λ (m : Cursor). m.at) u in
          rw x.answer
          (Laws.took doc c p _ R R' T T n
          (record {
            tree = enclosed o c.at n.at [];
            is = rw a (bracket_empty o r doc c.at (closes o) bracketed shut refl);
            span = node_span doc c (within c) n p (kind_of o) 0 (children o []) R R R' T T (omega arith) refl refl w;
            filled = node_filled doc c (within c) n p (kind_of o) 0 (children o []) R R R' T T (omega arith) refl refl w x.table;
          }))

    pub loop_first : (S : List ℕ) (q : ℕ) → Ready doc c → k ≡ Err q → Loop o r doc c R T S R T S d 0
    loop_first S q f z =
        rw inner (loop_start o r doc c R T S f bracketed (λ y. Laws.take_other doc d (closes o) k t q z (ap (λ (m : Cursor). peek doc m.at) inner ∙ y)))

-- ---- the loop

module _ (o : Bool) (r : Reader Tree) (doc : List ℕ) (c : Cursor) (R0 T0 S0 R T S R' T' : List ℕ) (cur : Cursor) (cnt : ℕ) where
  module _ (l : Loop o r doc c R0 T0 S0 R T S cur cnt) (a : After) (e : Turned o (closes o) doc cur c.row (member_r o r) a R R' T T') where
    goes_of : (n : Cursor) → a ≡ Ok (More n) → Goes o doc cur c.row (member_r o r) n R R' T T'
    unfolding Turned
    goes_of n h = rw h at e

    pub ends_of : (n : Cursor) → a ≡ Ok (Last n) → Ends o (closes o) doc cur c.row (member_r o r) n R R' T T'
    unfolding Turned
    ends_of n h = rw h at e

    stops_of : (q : ℕ) → a ≡ Err q → Stops o (closes o) doc cur.at (member_r o r) q
    unfolding Turned
    stops_of q h = rw h at e

    pub loop_again : (S' : List ℕ) (n : Cursor) → a ≡ Ok (More n) → Notes (members o) doc cur.at cur.row c.row (member_r o r cur.at (drop cur.at doc)) S S'
        → Loop o r doc c R0 T0 S0 R' T' S' n (cnt + 1)
    loop_again S' n h x = loop_more o r doc c R0 T0 S0 R T S R' T' cur n cnt l S' (goes_of n h) x

    pub loop_falls : (n : Cursor) → a ≡ Ok (More n) → length doc - n.at < length doc - cur.at
    loop_falls n h = let q = goes_of n h in omega (arith, q.read.ahead, q.to, q.read.written.inside)

    pub last_fits : (n : Cursor) → a ≡ Ok (Last n) → Enclosed c n (cnt + 1)
    last_fits n h =
        let d = l.from in
        let w = written_more o r doc c R0 T0 S0 R T S R' T' cur n cnt l (ends_of n h).read in
        record {
          first_fits = omega (arith, d.small, d.inside);
          after_fits = omega (arith, d.small, w.inside);
          count_fits = omega (arith, d.small, l.few, l.ready.inside);
          row_fits = omega (arith, d.small, d.inside, d.few_rows);
          next_fits = omega (arith, d.small, d.few_rows, w.row, w.few_rows, w.inside);
        }

    listed : bracket_r o r c.at (drop c.at doc) ≡ bind (list_r (closes o) (member_r o r) (c.at + 1) (drop (c.at + 1) doc)) (λ ms e. ret_r (enclosed o c.at e ms) e)
    listed = bracket_list o r doc c.at (peek doc (c.at + 1)) l.opened refl l.listed

    pub bad_is : (q : ℕ) → a ≡ Err q → bracket_r o r c.at (drop c.at doc) ≡ bad q
    bad_is q k =
        listed ∙ ap (λ (u : Out (List (Member o))). bind u (λ ms e. ret_r (enclosed o c.at e ms) e)) (loop_stops o r doc c R0 T0 S0 R T S R' T' cur cur cnt l q (stops_of q k))

    pub last_is : (n : Cursor) (k : a ≡ Ok (Last n))
        → bracket_r o r c.at (drop c.at doc) ≡ ok (enclosed o c.at n.at (l.done ++ (ends_of n k).read.member ∷ [])) n.at (drop n.at doc)
    last_is n k =
        listed
        ∙ ap (λ (u : Out (List (Member o))). bind u (λ ms e. ret_r (enclosed o c.at e ms) e)) (loop_last o r doc c R0 T0 S0 R T S R' T' cur n cnt l (ends_of n k))

    module _ (p : ℕ) where
      pub container_bad : (q : ℕ) → a ≡ Err q → Answers doc c p (bracket_r o r c.at (drop c.at doc)) (Err q) R0 R' T0 T'
      container_bad q k = Laws.refused doc c p _ R0 R' T0 T' q (bad_is q k)

      pub container_last : (n : Cursor) (s : Ans) (R'' : List ℕ) → a ≡ Ok (Last n) → Closed c n p (cnt + 1) (kind_of o) s R' R'' → Answers doc c p (bracket_r o r c.at (drop c.at doc)) s R0 R'' T0 T'
      container_last n s R'' k x =
          let z = ends_of n k in
          let ms = l.done ++ z.read.member ∷ [] in
          let w = written_more o r doc c R0 T0 S0 R T S R' T' cur n cnt l z.read in
          let t : cnt + 1 ≡ count ms = omega (arith, count_then l.done z.read.member, l.counted) in
          rw x.answer
          (Laws.took doc c p _ R0 R'' T0 T' n
          (record {
            tree = enclosed o c.at n.at ms;
            is = last_is n k;
            span = node_span doc c (within c) n p (kind_of o) (count ms) (children o ms) R0 R' R'' T0 T' (omega arith) refl refl w;
            filled = node_filled doc c (within c) n p (kind_of o) (count ms) (children o ms) R0 R' R'' T0 T' (omega arith) refl refl w (rw (← t) x.table);
          }))

-- ---- the row

pub closed_row : (c n : Cursor) (p cnt k : ℕ) (R R' : List ℕ) (w : Words) → w ≡ record { kind = k; first = c.at; after = n.at; from = 0; to = cnt; parent = p; next = n.row }
    → R' ≡ sets R (width * c.row) (row_list unlined w.kind w.first w.after w.from w.to w.parent w.next) → Closed c n p cnt k (Ok n) R R'
closed_row c n p cnt k R R' w f h = record { answer = refl; table = h ∙ rw f refl }

pub ruleset containing = (closed_row, rules)

pub ruleset looping = (none_fits, container_shut, container_none, loop_first, loop_again, loop_falls, last_fits, container_bad, container_last, rules)
