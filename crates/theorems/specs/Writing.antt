-- THE THEOREMS OF SOUND TABLES AND OF THE WRITER (02, Ticket 1), by name. What they say that is not in `language` stands in `house` (Written).
use mathlib.Core.Path.{◌≡◌}
use Rattle.std.specs.Prelude.{List, ℕ, ◌*◌, ◌≤◌, length, take}
use Rattle.language.specs.Tree.{Tree, width, text_of}
use Rattle.language.specs.Answered.{Reads, Answered}
use Rattle.language.specs.Lent.{words_in, bytes_in}
use Rattle.language.specs.Alike.{Alike}
use Rattle.language.specs.Sound.{Holds, Sound}
use Rattle.language.specs.Written.{Sounded, Written}
use Rattle.shaped.specs.Holds as shaped
use Rattle.house.specs.Written as house
use Rattle.theorems.specs.Proved.{known}

-- A SOUND TABLE is sound for one tree, spans aside
pub sound_tree : (table : List ℕ) (rows : ℕ) (text : List ℕ) (t u : Tree) → Holds table rows text t → Holds table rows text u → Alike t u
sound_tree = shaped.sound_tree

-- A TABLE THAT `read` FILLED is sound
pub read_sound : (doc table text table' text' : List ℕ) (n m : ℕ) → Answered doc table text 0 n m table' text' → Sound table' n text'
read_sound doc table text table' text' n m x = shaped.accepted_sound x mathlib.Core.Path.refl

-- ONE ANSWER of the test of soundness, and of the writer: number, count and every byte of the output
pub one_sounded : (table : List ℕ) (rows : ℕ) (text : List ℕ) (n m : ℕ) → Sounded table rows text n → Sounded table rows text m → n ≡ m
one_sounded table rows text n m x y = house.one_sounded x y

pub one_written : (table : List ℕ) (rows : ℕ) (text out : List ℕ) (n c n₂ c₂ : ℕ) (out' out'' : List ℕ) → Written table rows text out n c out' → Written table rows text out n₂ c₂ out''
    → (n ≡ n₂) × (c ≡ c₂) × (out' ≡ out'')
one_written table rows text out n c n₂ c₂ out' out'' x y = house.one_written x y

-- WHAT WAS WRITTEN IS READ: it is a document within the limits that repeats no key, and its tree is the table's but for spans
pub written_reads : (table : List ℕ) (rows : ℕ) (text out : List ℕ) (n : ℕ) (out' : List ℕ) → Written table rows text out 0 n out' → house.Back table rows text (take n out')
written_reads table rows text out n out' x = house.written_back (house.wrote x mathlib.Core.Path.refl)

-- .. and `read` accepts it given the rooms, with as many rows, and leaves a table and a text that hold a tree like the table's
pub written_accepted : (table : List ℕ) (rows : ℕ) (text out : List ℕ) (n : ℕ) (out' table₂ text₂ : List ℕ) (c v s : ℕ) (table₃ text₃ : List ℕ) (t : Tree)
    → Written table rows text out 0 n out' → Holds table rows text t → width * rows ≤ words_in table₂ → length (text_of t) ≤ bytes_in text₂ → Answered (take n out') table₂ text₂ c v s table₃ text₃
    → house.Accepted table rows text c v table₃ text₃
written_accepted table rows text out n out' table₂ text₂ c v s table₃ text₃ t x h l m y =
    house.written_accepted known t h (written_reads table rows text out n out' x) l m y

-- WRITTEN TWICE, with a reading between, gives the same bytes
pub written_twice : (table : List ℕ) (rows : ℕ) (text out : List ℕ) (n : ℕ) (out' table₂ text₂ : List ℕ) (v s : ℕ) (table₃ text₃ out₂ : List ℕ) (m : ℕ) (out₃ : List ℕ)
    → Written table rows text out 0 n out' → Answered (take n out') table₂ text₂ 0 v s table₃ text₃ → Written table₃ v text₃ out₂ 0 m out₃ → take m out₃ ≡ take n out'
written_twice table rows text out n out' table₂ text₂ v s table₃ text₃ out₂ m out₃ x y z =
    house.written_again known (house.wrote x mathlib.Core.Path.refl) y (house.wrote z mathlib.Core.Path.refl)
