-- KEYS THAT ENTER A WINDOW'S CHAINS AS THEY ARE PASSED (`Entering`): what is stored behind them changes nothing of those that stand there. Assumes nothing.
use Rattle.std.specs.Prelude.{◌≡◌, refl, List, Bool, true, false, ℕ, ◌+◌, ◌≤◌, ◌<◌, length, set, Option, Some, None, is_some, Result, Ok, Err}
use Rattle.std.proofs.Common.{sym, ◌∙◌, arith, length-set}
use Rattle.std.proofs.Math.Seq.{slice}
use Rattle.repeats.specs.Links.{Points, to_none, to_key, Chains, chains_none}
use Rattle.repeats.specs.declared.TooLong.{TooLong}
use Rattle.distinct.specs.declared.Taken.{Taken}
use Rattle.distinct.specs.Names.{Part, spelt, text_keys, sits_at, Twice, twice_none}
use Rattle.distinct.specs.Chains.{InChains, Chaining, Chained, Passed, passed_chaining, passed_some, passed_none, Linked, linked_twice}
use Rattle.distinct.specs.Roads.{Road, ApartTold}
use Rattle.distinct.specs.Window.{leads_clash, clash_within, spelt_set, TouchedLooked, ClashLooked, clash_past, looked_yes, looked_no, Rooms}
use Rattle.distinct.specs.Windows.{Open, Gathered, Gathering, gather_first, gather_full, gather_over, gather_more, Windowed, window_room, window_yes, window_no}

-- the keys before n in other rooms, where they have the same texts
module _ (text froms tos froms' tos' : List ℕ) (n : ℕ) (same : (k : ℕ) → k < n → spelt text froms tos k ≡ spelt text froms' tos' k) where
  points_as : {m h : ℕ} → Points (text_keys text froms tos) m h → Points (text_keys text froms' tos') m h
  points_as to_none = to_none
  points_as (to_key x) = to_key (record { before = x.before; key = tt })

  chains_as : (heads links : List ℕ) → Chains (text_keys text froms tos) heads links n → Chains (text_keys text froms' tos') heads links n
  chains_as heads links x =
      record {
        many = x.many;
        heads_point = λ m. points_as (x.heads_point m);
        linked = λ j. points_as (x.linked j);
        all = λ k y. rw (sym (same k y.before)) (x.all k (record { before = y.before; key = tt }));
      }

  twice_as : Twice text froms' tos' n → Twice text froms tos n
  twice_as t =
      let o = t.earlier.other in
      let l : o < t.number = t.earlier.key.before in
      record {
        number = t.number;
        low = t.low;
        earlier = sits_at text froms tos o l (same t.number t.low ∙ (t.earlier.same ∙ sym (same o (let m = t.low in omega arith))));
      }

-- n keys are gathered and stand in the chains, none has the text of an earlier one, and the walk has come to r
pub record Entering (D : Road) (text froms tos heads links : List ℕ) (from n r : ℕ) : Type 0 where
  pub gathering : Gathering D text froms tos from n r
  pub chains : Chains (text_keys text froms tos) heads links n
  pub none : Twice text froms tos n → ⊥
  pub room : length froms ≤ length links

pub enter_first : (D : Road) (text froms tos heads links : List ℕ) (from : ℕ) → Open D from → Rooms froms tos heads links → Entering D text froms tos heads links from 0 from
enter_first D text froms tos heads links from k r =
    record {
      gathering = gather_first D text from froms tos k (window_room froms tos heads links r);
      chains = chains_none (text_keys text froms tos) heads links r.many r.no_heads r.no_links;
      none = twice_none text froms tos;
      room = r.wide;
    }

module _ (D : Road) (text froms tos heads links : List ℕ) (from n r : ℕ) (x : Entering D text froms tos heads links from n r) where
  -- the window is full, or no key is left
  pub entered_chains : InChains text froms tos heads links n
  entered_chains = let h = x.gathering.leads.held in record { held = h; room = omega (arith, x.room, h.from_room); chains = x.chains }

  module _ (f : n ≡ length froms → ⊥) (l : r < D.stop) (a e : ℕ) (p : Part text a e) (z : D.text r ≡ slice a e text) where
    gathered : (q : ℕ) → q ≡ D.next r → Gathering D text (set froms n a) (set tos n e) from (n + 1) q
    gathered q h = gather_more D text from froms tos n r x.gathering f l a e p z q h

    passed : Passed text (set froms n a) (set tos n e) heads links (n + 1) n
    passed =
        let g = gathered (D.next r) refl in
        let s : (k : ℕ) → k < n → spelt text froms tos k ≡ spelt text (set froms n a) (set tos n e) k = λ k y. spelt_set text froms tos n a e y in
        record {
          within = omega arith;
          held = g.leads.held;
          room = omega (arith, x.room, x.gathering.leads.held.from_room);
          chains = chains_as text froms tos (set froms n a) (set tos n e) n s heads links x.chains;
          none = λ t. x.none (twice_as text froms tos (set froms n a) (set tos n e) n s t);
        }

    pub enter_chaining : Chaining text (set froms n a) (set tos n e) heads links (n + 1) n
    enter_chaining = passed_chaining text (set froms n a) (set tos n e) (n + 1) heads links n passed (omega arith)

    module _ (heads' links' : List ℕ) (o : Option ℕ) (y : Chained text (set froms n a) (set tos n e) heads' links' n (Ok o)) (b : Bool) (v : b ≡ is_some o) where
      pub enter_met : b ≡ true → ApartTold D from false
      enter_met w =
          let t = linked_twice text (set froms n a) (set tos n e) heads' links' (n + 1) (Ok true) (passed_some text (set froms n a) (set tos n e) (n + 1) heads links n passed heads' links' o y (omega arith) b v w) refl in
          let g = gathered (D.next r) refl in
          leads_clash D text (set froms n a) (set tos n e) from (n + 1) (D.next r) g.leads (λ us v. clash_within t)

      pub enter_more : b ≡ false → length links' ≡ length links → (q : ℕ) → q ≡ D.next r → Entering D text (set froms n a) (set tos n e) heads' links' from (n + 1) q
      enter_more z g q h =
          let w = passed_none text (set froms n a) (set tos n e) (n + 1) heads links n passed heads' links' o y (omega arith) b v z g in
          record { gathering = gathered q h; chains = w.chains; none = w.none; room = let i = length-set froms n a in omega (arith, x.room) }

-- ---- what entering tells

-- n keys stand in the window and in its chains, none has the text of an earlier one, and others stand from `next` on
pub record Entry (D : Road) (text froms tos heads links : List ℕ) (from n next : ℕ) : Type 0 where
  pub gathered : Gathered D text froms tos from (record { n = n; next = next })
  pub chains : InChains text froms tos heads links n
  pub none : Twice text froms tos n → ⊥

abbrev pub Enters : Road → List ℕ → List ℕ → List ℕ → List ℕ → List ℕ → ℕ → Result (Option Taken) TooLong → Type 0
Enters D text froms tos heads links from (Ok None) = ApartTold D from false
Enters D text froms tos heads links from (Err e) = Unit {0}
Enters D text froms tos heads links from (Ok (Some w)) = Entry D text froms tos heads links from w.n w.next

module _ (D : Road) (text froms tos heads links : List ℕ) (from n r : ℕ) (x : Entering D text froms tos heads links from n r) where
  pub enter_full : n ≡ length froms → Enters D text froms tos heads links from (Ok (Some (record { n = n; next = r })))
  enter_full e = record { gathered = gather_full D text from froms tos n r x.gathering e; chains = entered_chains D text froms tos heads links from n r x; none = x.none }

  pub enter_over : D.stop ≤ r → Enters D text froms tos heads links from (Ok (Some (record { n = n; next = r })))
  enter_over l = record { gathered = gather_over D text from froms tos n r x.gathering l; chains = entered_chains D text froms tos heads links from n r x; none = x.none }

module _ (D : Road) (text froms tos heads links : List ℕ) (from : ℕ) (s : Result (Option Taken) TooLong) (t : Enters D text froms tos heads links from s) where
  pub entered_twice : s ≡ Ok None → Windowed D from None
  entered_twice e = let z : Enters D text froms tos heads links from (Ok None) = rw e at t in z

  module _ (w : Taken) (e : s ≡ Ok (Some w)) where
    entry : Entry D text froms tos heads links from w.n w.next
    entry = rw e at t

    pub entered_in : InChains text froms tos heads links w.n
    entered_in = entry.chains

    pub entered_open : Open D w.next
    entered_open = entry.gathered.keys

    linked : Linked text froms tos heads links w.n (Ok false)
    unfolding Linked
    linked = (entry.none, entry.chains.chains)

    module _ (v : Result Bool TooLong) (u : TouchedLooked D text froms tos w.n w.next v) where
      looked : ClashLooked D text froms tos w.n w.next v
      looked = clash_past D text froms tos w.n w.next heads links (Ok false) linked refl v u

      pub entered_met : v ≡ Ok true → Windowed D from None
      entered_met z = window_yes D text froms tos from w entry.gathered true (looked_yes D text froms tos w.n w.next v looked z) refl

      pub entered_past : from < D.stop → v ≡ Ok false → Windowed D from (Some w.next)
      entered_past l z = window_no D text froms tos from w entry.gathered false (looked_no D text froms tos w.n w.next v looked z) l refl
