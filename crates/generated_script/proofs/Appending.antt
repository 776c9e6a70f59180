-- Texts appended one after the other.
use Rattle.std.proofs.Common.{◌≡◌, ℕ, List, [], ◌++◌, append_assoc, append-nil}

-- four numbers, each behind a text, and an end
pub four_numbers : (t0 t1 t2 t3 t4 t5 a1 d1 a2 d2 a3 d3 a4 d4 e : List ℕ) → t1 ≡ (t0 ++ a1) ++ d1 → t2 ≡ (t1 ++ a2) ++ d2 → t3 ≡ (t2 ++ a3) ++ d3
    → t4 ≡ (t3 ++ a4) ++ d4 → t5 ≡ t4 ++ e → t5 ≡ t0 ++ (a1 ++ d1 ++ a2 ++ d2 ++ a3 ++ d3 ++ a4 ++ d4 ++ e)
four_numbers t0 t1 t2 t3 t4 t5 a1 d1 a2 d2 a3 d3 a4 d4 e is1 is2 is3 is4 is5 = rw (is5, is4, is3, is2, is1) (simp append_assoc)

-- two lines, of which each has two numbers
pub two_lines : (t0 t1 t2 t3 t4 t5 a1 d1 a2 d2 e1 a3 d3 a4 d4 n : List ℕ) → t1 ≡ (t0 ++ a1) ++ d1 → t2 ≡ (t1 ++ a2) ++ d2
    → t3 ≡ (t2 ++ ((e1 ++ n) ++ a3)) ++ d3 → t4 ≡ (t3 ++ a4) ++ d4 → t5 ≡ t4 ++ n
    → t5 ≡ t0 ++ (((a1 ++ d1 ++ a2 ++ d2 ++ e1) ++ n) ++ (((a3 ++ d3 ++ a4 ++ d4) ++ n) ++ []))
two_lines t0 t1 t2 t3 t4 t5 a1 d1 a2 d2 e1 a3 d3 a4 d4 n is1 is2 is3 is4 is5 = rw (is5, is4, is3, is2, is1) (simp (append_assoc, append-nil))
