-- WHAT THE WRITER'S PROMISE GIVES: one answer only, a document that is read back as the same tree, spans aside, and the same bytes when it is written again. Assumes what Unique of `promise` does.
use Rattle.std.specs.Prelude.{◌≡◌, refl, List, ◌++◌, ℕ, ◌*◌, ◌≤◌, length, take, drop}
use Rattle.std.proofs.Common.{sym, ap, subst, ◌∙◌, arith}
use Rattle.std.proofs.Math.Seq.{take-append_seam}
use Rattle.language.specs.Tree.{Tree, width, text_of}
use Rattle.language.specs.Answered.{limit, deepest, Reads, Answered, accepted}
use Rattle.language.specs.Lent.{words_in, bytes_in}
use Rattle.language.specs.Alike.{unspan, Alike}
use Rattle.language.specs.Sound.{Holds}
use Rattle.language.specs.House.{house}
use Rattle.language.specs.Written.{Sounded, is_sound, unsound, Written, fits, bad, long, needs}
use Rattle.promise.specs.Unique.{Known, one_answer}
use Rattle.shaped.specs.Once.{alike_once}
use Rattle.shaped.specs.Bare.{alike_size, alike_text}
use Rattle.shaped.specs.Holds.{profile_shaped, sound_tree, read_holds, accepted_holds}
use Rattle.house.specs.Unspanned.{house_alike}
use Rattle.house.specs.Document.{house_document}

-- ONE ANSWER of the test
pub one_sounded : {table : List ℕ} {rows : ℕ} {text : List ℕ} {n m : ℕ} → Sounded table rows text n → Sounded table rows text m → n ≡ m
one_sounded (is_sound s) (is_sound t) = refl
one_sounded (is_sound s) (unsound n) = absurd (n s)
one_sounded (unsound n) (is_sound s) = absurd (n s)
one_sounded (unsound n) (unsound m) = refl

-- what one table holds is written in one way
same_house : {table : List ℕ} {rows : ℕ} {text : List ℕ} (t u : Tree) → Holds table rows text t → Holds table rows text u → house t ≡ house u
same_house {table} {rows} {text} t u h k = house_alike t u (sound_tree table rows text t u h k)

-- ONE ANSWER of the writer: the number, the count and every byte of the output
pub one_written : {table : List ℕ} {rows : ℕ} {text out : List ℕ} {n c n₂ c₂ : ℕ} {out' out'' : List ℕ} → Written table rows text out n c out' → Written table rows text out n₂ c₂ out''
    → (n ≡ n₂) × (c ≡ c₂) × (out' ≡ out'')
one_written {out = out} (fits t h l m) (fits u k i j) = let e = same_house t u h k in (refl, ap length e, ap (λ (w : List ℕ). w ++ drop (length w) out) e)
one_written (fits t h l m) (bad n) = absurd (n (record { tree = t; holds = h }))
one_written (fits t h l m) (long u k i) = absurd (let e = ap length (same_house t u h k) in omega arith)
one_written (fits t h l m) (needs u k i j) = absurd (let e = ap length (same_house t u h k) in omega arith)
one_written (bad n) (fits u k i j) = absurd (n (record { tree = u; holds = k }))
one_written (bad n) (bad m) = (refl, refl, refl)
one_written (bad n) (long u k i) = absurd (n (record { tree = u; holds = k }))
one_written (bad n) (needs u k i j) = absurd (n (record { tree = u; holds = k }))
one_written (long t h l) (fits u k i j) = absurd (let e = ap length (same_house t u h k) in omega arith)
one_written (long t h l) (bad n) = absurd (n (record { tree = t; holds = h }))
one_written (long t h l) (long u k i) = (refl, refl, refl)
one_written (long t h l) (needs u k i j) = absurd (let e = ap length (same_house t u h k) in omega arith)
one_written (needs t h l m) (fits u k i j) = absurd (let e = ap length (same_house t u h k) in omega arith)
one_written (needs t h l m) (bad n) = absurd (n (record { tree = t; holds = h }))
one_written (needs t h l m) (long u k i) = absurd (let e = ap length (same_house t u h k) in omega arith)
one_written (needs t h l m) (needs u k i j) = (refl, ap length (same_house t u h k), refl)

-- ---- what was written

-- the first n bytes of the output are what the house style writes for the tree that the table holds
pub record Wrote (table : List ℕ) (rows : ℕ) (text : List ℕ) (n : ℕ) (out' : List ℕ) : Type 0 where
  pub tree : Tree
  pub holds : Holds table rows text tree
  pub bytes : take n out' ≡ house tree
  pub short : length (house tree) ≤ limit

pub wrote : {table : List ℕ} {rows : ℕ} {text out : List ℕ} {c n : ℕ} {out' : List ℕ} → Written table rows text out c n out' → c ≡ 0 → Wrote table rows text n out'
wrote {out = out} (fits t h l m) e = record { tree = t; holds = h; bytes = take-append_seam (house t) (drop (length (house t)) out); short = l }
wrote (bad n) e = absurd (omega arith)
wrote (long t h l) e = absurd (omega arith)
wrote (needs t h l m) e = absurd (omega arith)

-- IT IS READ BACK: a document whose tree is that of the table, spans aside
pub record Back (table : List ℕ) (rows : ℕ) (text doc : List ℕ) : Type 0 where
  pub tree : Tree
  pub reads : Reads doc tree
  pub alike : (t : Tree) → Holds table rows text t → Alike tree t

pub written_back : {table : List ℕ} {rows : ℕ} {text : List ℕ} {n : ℕ} {out' : List ℕ} → Wrote table rows text n out' → Back table rows text (take n out')
written_back {table} {rows} {text} w =
    let t = w.tree in
    let r = house_document deepest t (profile_shaped w.holds.profile) in
    let a = sym r.alike in
    let d : Reads (house t) r.tree = record { short = w.short; word = r.word; once = alike_once t r.tree a w.holds.profile.once } in
    record {
      tree = r.tree;
      reads = subst (λ (s : List ℕ). Reads s r.tree) (sym w.bytes) d;
      alike = λ u h. r.alike ∙ sound_tree table rows text t u w.holds h;
    }

-- .. and accepted given the rooms, with as many rows, and table and text hold that tree
pub record Accepted (table : List ℕ) (rows : ℕ) (text : List ℕ) (n v : ℕ) (table' text' : List ℕ) : Type 0 where
  pub zero_is : n ≡ 0
  pub rows_are : v ≡ rows
  pub tree : Tree
  pub holds : Holds table' v text' tree
  pub alike : (t : Tree) → Holds table rows text t → Alike tree t

module _ (κ : Known) where
  pub written_accepted : {table : List ℕ} {rows : ℕ} {text doc table₂ text₂ : List ℕ} {n v s : ℕ} {table₃ text₃ : List ℕ} → (t : Tree) → Holds table rows text t → Back table rows text doc
      → width * rows ≤ words_in table₂ → length (text_of t) ≤ bytes_in text₂ → Answered doc table₂ text₂ n v s table₃ text₃ → Accepted table rows text n v table₃ text₃
  written_accepted {table} {rows} {text} {doc} {table₂} {text₂} {n} {v} {s} {table₃} {text₃} t h b l m x =
      let u = b.tree in
      let a = b.alike t h in
      let z = alike_size u t a in
      let y = ap length (alike_text u t a) in
      let e = one_answer κ x (accepted u b.reads (omega (arith, h.count)) (omega arith)) in
      let g = read_holds doc u b.reads table₂ text₂ in
      record {
        zero_is = e.0;
        rows_are = omega (arith, e.1, h.count);
        tree = u;
        holds = rw (e.1, e.3, e.4) g;
        alike = b.alike;
      }

  -- TWICE: write, read, write gives the same bytes
  pub written_again : {table : List ℕ} {rows : ℕ} {text table₂ text₂ table₃ text₃ : List ℕ} {n v s m : ℕ} {out' out''' : List ℕ} → Wrote table rows text n out'
      → Answered (take n out') table₂ text₂ 0 v s table₃ text₃ → Wrote table₃ v text₃ m out''' → take m out''' ≡ take n out'
  written_again {table} {rows} {text} {table₂} {text₂} {table₃} {text₃} {n} {v} {s} {m} {out'} w y x =
      let b = written_back w in
      let r = accepted_holds y refl in
      let e = sound_tree table₃ v text₃ x.tree r.tree x.holds r.holds in
      let g : r.tree ≡ b.tree = κ.one_tree deepest (take n out') r.tree b.tree r.reads.word b.reads.word in
      let f = b.alike w.tree w.holds in
      x.bytes ∙ (house_alike x.tree w.tree (e ∙ (ap unspan g ∙ f)) ∙ sym w.bytes)
