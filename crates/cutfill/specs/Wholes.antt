-- FIELDS THAT STAND WHOLE IN A RUN of a view: where heads lead one behind another (`Chain`), the first of the trees end (`chain_split`), since a part is longer than a run. Assumes nothing.
use Rattle.std.specs.Prelude.{◌≡◌, Bool, true, ℕ, ◌+◌, ◌-◌, ◌≤◌, ◌<◌, take, drop}
use Rattle.std.proofs.Math.Path.{refl, ap}
use Rattle.std.proofs.Common.{sym, subst, ◌∙◌, length-take-le, ext_get_or}
use mathlib.Core.List.{List, [], ◌++◌, append-nil}
use native.Mathlib.Omega.{arith}
use Rattle.std.proofs.Math.Decide.{dec_le}
use Rattle.std.proofs.Math.ListN.{length, get_or, length-append}
use Rattle.std.proofs.Math.Seq.{slice, length-slice, get_or-drop, get_or-take}
use Rattle.exact.specs.Tells.{Tells, tells_yes}
use Rattle.language.specs.Tree.{Tree, Forest, none, more}
use Rattle.shaped.specs.Beside.{beside}
use Rattle.stored.specs.Form.{tagged, head, widest, PART, tag, cut, content, forms, form}
use Rattle.stored.specs.Parts.{widest_is}
use Rattle.stored.proofs.PartsLaws.{cut_short, cut_long}
use Rattle.stored.specs.Bytes.{At, at_left, at_right, at_byte, at_as}
use Rattle.uncut.specs.Short.{longest}
use Rattle.uncut.specs.Heads.{end_at, end_after, Behind, Lies, Whole}
use Rattle.wide.specs.Walk.{beside_forms}
use Rattle.wide.specs.Near.{Nearby}
use Rattle.cutfill.specs.Placed.{beside_all}

-- a place that heads lead to, one behind another from the beginning on
pub data Chain (s : List ℕ) : ℕ → Type 0 where
  chain_none : Chain s 0
  chain_more : {a : ℕ} → Chain s a → Whole s a (length s) → Chain s (end_at s a)

pub chain_inside : {s : List ℕ} {e : ℕ} → Chain s e → e ≤ length s
chain_inside chain_none = omega arith
chain_inside (chain_more c w) = w.ends

module _ (s : List ℕ) (e : ℕ) (c : Chain s e) where
  pub chain_lies : length s ≤ longest → Lies s e (length s)
  chain_lies l = record { order = chain_inside c; inside = omega arith; few = l }

  module _ (b : Bool) (t : Tells (Whole s e (length s)) b) (y : b ≡ true) where
    whole : Whole s e (length s)
    whole = tells_yes b y t

    pub chain_head : length s ≤ longest → (e + 3 ≤ length s) × (e ≤ longest)
    chain_head l = let w = whole in (w.begins, omega (arith, w.begins))

    pub chain_turn : (next : ℕ) → Behind s e next → Chain s next
    chain_turn next h = subst (Chain s) (sym h.is) (chain_more c whole)

    pub chain_less : (next : ℕ) → Behind s e next → length s - next < length s - e
    chain_less next h = let w = whole in omega (arith, h.is, w.ends, end_after s e)

pub ruleset chaining = (chain_none, chain_lies, chain_head, chain_turn, chain_less)

-- ---- in a view

-- WHAT IS TOLD of the fields that stand whole in a view from `at` on: e bytes of a run
pub record Run (stored starts : List ℕ) (d at stop place e : ℕ) : Type 0 where
  pub left : ℕ
  pub near : Nearby stored starts d at stop place left
  pub chain : Chain (slice place (place + left) stored) e

-- some trees in front, with so many bytes, and the others
pub record Split (us : Forest) (e : ℕ) : Type 0 where
  pub front : Forest
  pub rest : Forest
  pub is : us ≡ beside front rest
  pub long : length (forms front) ≡ e

-- the first of trees alone
pub first_alone : (t : Tree) (ts : Forest) → more t ts ≡ beside (more t none) ts
unfolding beside
first_alone t ts = refl

pub alone_form : (t : Tree) → forms (more t none) ≡ form t
unfolding content
alone_form t = append-nil (form t)

module _ (v : List ℕ) (at left : ℕ) (fits : at + left ≤ length v) (few : left ≤ 65535) where
  run : List ℕ
  run = slice at (at + left) v

  run_length : length run ≡ left
  unfolding run
  run_length = length-slice at (at + left) v fits ∙ omega arith

  run_byte : (j : ℕ) → j < left → get_or run j 0 ≡ get_or v (at + j) 0
  unfolding run
  run_byte j l = get_or-drop at (take (at + left) v) j 0 ∙ get_or-take (at + left) v (at + j) 0 (omega arith)

  -- a head in the run tells the end of a field of one part
  tells_end : (a k : ℕ) (c : List ℕ) → At v (at + a) (tagged k c) → a + 3 ≤ left → end_at run a ≡ a + head + length c
  unfolding end_at
  tells_end a k c x l =
      let h = at_byte (tagged k c) 1 x (omega arith) in
      let i = at_byte (tagged k c) 2 x (omega arith) in
      let y = run_byte (a + 1) (omega arith) ∙ ap (λ j. get_or v j 0) (let e : at + (a + 1) ≡ at + a + 1 = omega arith in e) in
      let z = run_byte (a + 2) (omega arith) ∙ ap (λ j. get_or v j 0) (let e : at + (a + 2) ≡ at + a + 2 = omega arith in e) in
      omega arith

  -- so a whole field there is that of the tree
  tree_end : {a : ℕ} (t : Tree) → At v (at + a) (form t) → Whole run a (length run) → end_at run a ≡ a + length (form t)
  tree_end {a} t x w = by (dec_le (length (content t)) widest)
    where
      k : ℕ
      k = tag t

      c : List ℕ
      c = content t

      by : Dec (length (content t) ≤ widest) → end_at run a ≡ a + length (form t)
      by (yes h) =
          let e = cut_short (tag t) (content t) h in
          let f = tells_end a (tag t) (content t) (at_as e x) (omega (arith, run_length, w.begins)) in
          omega (arith, ap length e)
      by (no h) =
          let e = cut_long (tag t) (content t) (omega arith) in
          let p = take widest (content t) in
          let m : length p ≡ widest = length-take-le widest (content t) (omega arith) in
          let f = tells_end a PART p (at_left v (tagged PART p) (cut (tag t) (drop widest (content t))) (at_as e x)) (omega (arith, run_length, w.begins)) in
          absurd (omega (arith, run_length, w.ends, widest_is))

  module _ (us : Forest) (here : At v at (forms us)) (within : at + left ≤ at + length (forms us)) where
    split_none : Split us 0
    unfolding beside content
    split_none = record { front = none; rest = us; is = refl; long = refl }

    -- one tree more
    split_more : {a : ℕ} → Split us a → Whole run a (length run) → Split us (end_at run a)
    unfolding content
    split_more {a} s w = by s.rest s.is
      where
        by : (vs : Forest) → us ≡ beside s.front vs → Split us (end_at run a)
        by none e =
            absurd (omega (arith, run_length, w.begins, s.long, ap (λ (ts : Forest). length (forms ts)) e, ap length (beside_forms s.front none), length-append (forms s.front) []))
        by (more t ts) e =
            let ws = s.front in
            let f : forms us ≡ forms ws ++ forms (more t ts) = ap (λ (ts : Forest). forms ts) e ∙ beside_forms ws (more t ts) in
            let x : At v (at + a) (forms (more t ts)) = at_right v (forms ws) (forms (more t ts)) s.long (at_as f here) in
            let z = tree_end t (at_left v (form t) (forms ts) x) w in
            record {
              front = beside ws (more t none);
              rest = ts;
              is = e ∙ (ap (beside ws) (first_alone t ts) ∙ beside_all ws (more t none) ts);
              long =
                  ap length (beside_forms ws (more t none))
                  ∙ omega (arith, length-append (forms ws) (forms (more t none)), s.long, ap length (alone_form t));
            }

    chain_split_run : {e : ℕ} → Chain run e → Split us e
    chain_split_run chain_none = split_none
    chain_split_run (chain_more c w) = split_more (chain_split_run c) w

  -- WHERE HEADS LEAD, TREES END
  pub chain_split : {s : List ℕ} (us : Forest) → At v at (forms us) → at + left ≤ at + length (forms us) → slice at (at + left) v ≡ s → {e : ℕ} → Chain s e → Split us e
  unfolding run
  chain_split us h l same {e} c = chain_split_run us h l (subst (λ (s : List ℕ). Chain s e) (sym same) c)

-- the first bytes of a part
pub slice_front : (l : List ℕ) (a n m : ℕ) → a + n ≤ length l → m ≤ n → slice a (a + m) l ≡ take m (slice a (a + n) l)
slice_front l a n m h k = ext_get_or 0 (slice a (a + m) l) (take m (slice a (a + n) l)) lengths bytes
  where
    short : length (slice a (a + m) l) ≡ m
    short = length-slice a (a + m) l (omega arith) ∙ omega arith

    lengths : length (slice a (a + m) l) ≡ length (take m (slice a (a + n) l))
    lengths = short ∙ sym (length-take-le m (slice a (a + n) l) (omega (arith, length-slice a (a + n) l h)))

    bytes : (i : ℕ) → i < length (slice a (a + m) l) → get_or (slice a (a + m) l) i 0 ≡ get_or (take m (slice a (a + n) l)) i 0
    bytes i o =
        let b : i < m = omega (arith, short) in
        get_or-drop a (take (a + m) l) i 0
        ∙ (get_or-take (a + m) l (a + i) 0 (omega arith)
        ∙ sym (get_or-take m (slice a (a + n) l) i 0 b ∙ (get_or-drop a (take (a + n) l) i 0 ∙ get_or-take (a + n) l (a + i) 0 (omega arith))))
