-- WHAT AN ACKNOWLEDGEMENT DOES, as one statement in document 01's words and order: what becomes of A, of every number, of the gaps, and how many are left out.
-- It doesn't cite the step `acknowledge`: that the step meets it, and that nothing else does, is proved (proofs/Acknowledged.antt). Assumes nothing.
use Rattle.std.specs.Prelude.{ℕ, suc, ◌+◌, ◌-◌, ◌≤◌, ◌≡◌, Bool, not, cond, ◌&&◌, ◌||◌, List, leb, ltb, length}
use Rattle.sets.specs.Sets.{has, only}
use Rattle.rtps_reader_proxy.specs.Reader.{Reader, base_of, is_late}
use Rattle.reader_record.specs.Whole.{Valid}

-- n stays: it was unsent, and if the acknowledgement isn't late n is one of "those from b through last"
abbrev pub stays : ℕ → ℕ → Reader → ℕ → Bool
stays last b r n = has r.unsent n && (is_late r.acked b || (leb (base_of b) n && leb n last))

-- n joins: it is a member "from A through last"; `a` is A as it is afterwards, which is b if the acknowledgement isn't late. It is at least 1, so "member 0 is dropped"
abbrev pub joins : ℕ → ℕ → List ℕ → ℕ → Bool
joins last a ms n = has ms n && (leb a n && leb n last)

-- how many stay or join: of the unsent numbers those that stay, and of the members those that join and aren't among them
abbrev pub how_many : ℕ → ℕ → List ℕ → Reader → ℕ → ℕ
how_many last b ms r a = length (only (stays last b r) r.unsent) + length (only (λ n. joins last a ms n && not (stays last b r n)) ms)

-- how many of a set are smaller than n
abbrev pub smaller : ℕ → List ℕ → ℕ
smaller n l = length (only (λ k. ltb k n) l)

-- an acknowledgement with the base b and the members ms, where `last` is the last number written, makes r into r' and reports that `left` were left out
pub record Acknowledged (last b : ℕ) (ms : List ℕ) (r r' : Reader) (left : ℕ) : Type 0 where
  -- "b < A (late): A stays"; "otherwise: A becomes b": the base is the first number not acknowledged, and not the last one that is (DDSI-RTPS 2.5, 8.3.5.4)
  pub acked : r'.acked ≡ cond (is_late r.acked b) r.acked (base_of b)
  -- A never falls, and never comes past the number after the last
  pub never_falls : r.acked ≤ r'.acked
  pub never_ahead : r.acked ≤ suc last → r'.acked ≤ suc last
  -- a number is unsent afterwards exactly if it stays or joins, unless M smaller ones are
  pub unsent : (n : ℕ) → has r'.unsent n ≡ ((stays last b r n || joins last r'.acked ms n) && ltb (smaller n r'.unsent) r.cap)
  -- late: "gaps stay"; otherwise "gap members below b go". The prefix is as it was
  pub prefix : r'.prefix ≡ r.prefix
  pub gaps : (n : ℕ) → has r'.gaps n ≡ (has r.gaps n && (is_late r.acked b || leb (base_of b) n))
  -- "the count is the size of the untrimmed set less M, or 0"; with those that are unsent afterwards it makes the whole
  pub left_out : left ≡ how_many last b ms r r'.acked - r.cap
  pub counted : left + length r'.unsent ≡ how_many last b ms r r'.acked
  -- "Requested fragments aren't touched", and M isn't
  pub frags : r'.frags ≡ r.frags
  pub cap : r'.cap ≡ r.cap
  -- the record stays coherent
  pub valid : Valid r'
