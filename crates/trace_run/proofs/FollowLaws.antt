-- A line, from the code's command to what the line says. Assumes nothing.
use Prim.Native.Nat.{ℕ, ◌-◌, min}
use mathlib.Core.Path.{◌≡◌, refl, sym, ap, subst, ◌∙◌}
use mathlib.Core.Bool.{Bool, true, false, cond}
use mathlib.Core.List.{List}
use native.Mathlib.Omega.{arith}
use lib.ListN.{length, take, replicate, length-append}
use lib.Seq.{take_at}
use Rattle.std.specs.Prelude.{Option, Some, None}
use Rattle.numbers.specs.Promise.{Left3, Gives1, Gives2, Gives3}
use Rattle.trace_lines.specs.declared.command.Command.{Command}
use Rattle.trace_lines.specs.declared.command.Command.TheVariants.{Ack, Frag}
use Rattle.trace_lines.specs.Sets.{numbers_room}
use Rattle.trace_lines.specs.Lines.{Said, op_new, op_match, op_write, op_ack, op_sent, op_frag, op_evict, unknown, said, command_of, numbers_in, command_left}
use Rattle.trace_readers.specs.declared.state.Trace.{Trace}
use Rattle.trace_readers.specs.declared.state.Followed.{Followed}
use Rattle.trace_readers.specs.State.{refused_by, not_understood}
use Rattle.trace_readers.specs.Requests.{ack_line}
use Rattle.trace_readers.specs.Fragments.{frag_line}
use Rattle.trace_run.specs.Follow.{no_room, in_both, first_line, later_line, followed_by, first_numbers, first_by, later_by}

-- a promise about one outcome is one about an equal outcome
pub gives_as : {r : Followed} {u v w : List ℕ} (o p : Left3 Followed (List ℕ) (List ℕ) (List ℕ)) → o ≡ p → Gives3 r u v w o → Gives3 r u v w p
gives_as {r} {u} {v} {w} o p e g = subst (λ (x : Left3 Followed (List ℕ) (List ℕ) (List ℕ)). Gives3 r u v w x) e g

-- the numbers of a set, at the start of the room
count_all : (n : ℕ) (l : List ℕ) → first_numbers (length l) (numbers_room n l) ≡ l
count_all n l =
    let e : min (length l) (length (numbers_room n l)) ≡ length l = omega (arith, length-append l (replicate (n - length l) 0)) in
    ap (λ (m : ℕ). take m (numbers_room n l)) e ∙ take_at l (replicate (n - length l) 0) (length l) refl

some_same : (c d : Command) → ◌≡◌ {A = Option Command} (Some c) (Some d) → c ≡ d
some_same c d h = cc

pub first_said : (x : Said) (c : Command) (t : Trace) → Some c ≡ command_of x → first_by c t ≡ first_line x t
first_said (op_new a b d e) c t h = rw (some_same c _ h) refl
first_said (op_match a) c t h = rw (some_same c _ h) refl
first_said (op_write a) c t h = rw (some_same c _ h) refl
first_said (op_ack a b l) c t h = rw (some_same c _ h) refl
first_said (op_sent a b) c t h = rw (some_same c _ h) refl
first_said (op_frag a b l) c t h = rw (some_same c _ h) refl
first_said (op_evict a) c t h = rw (some_same c _ h) refl
first_said unknown c t h = cc

pub later-said : (n : ℕ) (x : Said) (c : Command) (t : Trace) (store large small : List ℕ) → Some c ≡ command_of x → later_by c (numbers_room n (numbers_in x)) t store large small ≡ later_line x t store large small
later-said n (op_new a b d e) c t store large small h = rw (some_same c _ h) refl
later-said n (op_match a) c t store large small h = rw (some_same c _ h) refl
later-said n (op_write a) c t store large small h = rw (some_same c _ h) refl
later-said n (op_ack a b l) c t store large small h = rw (some_same c _ h) (ap (λ (k : List ℕ). in_both (ack_line a b k t large small) store) (count_all n l))
later-said n (op_sent a b) c t store large small h = rw (some_same c _ h) refl
later-said n (op_frag a b l) c t store large small h = rw (some_same c _ h) (ap (λ (k : List ℕ). in_both (frag_line a b k t large small) store) (count_all n l))
later-said n (op_evict a) c t store large small h = rw (some_same c _ h) refl
later-said n unknown c t store large small h = cc

pub other_said : (x : Said) (t : Trace) (store large small : List ℕ) → None ≡ command_of x → no_room (refused_by not_understood t) store large small ≡ followed_by x t store large small
other_said (op_new a b d e) t store large small h = cc
other_said (op_match a) t store large small h = cc
other_said (op_write a) t store large small h = cc
other_said (op_ack a b l) t store large small h = cc
other_said (op_sent a b) t store large small h = cc
other_said (op_frag a b l) t store large small h = cc
other_said (op_evict a) t store large small h = cc
other_said unknown t store large small h = go t.started
  where
    go : (b : Bool) → no_room (refused_by not_understood t) store large small ≡ cond b (no_room (refused_by not_understood t) store large small) (no_room (refused_by not_understood t) store large small)
    go true = refl
    go false = refl

-- the code cuts the numbers at the smaller count
module _ (id k m n : ℕ) (numbers : List ℕ) (t : Trace) (store large small : List ℕ) (e : n ≡ min m (length numbers)) {r : Followed} {u v : List ℕ} where
  pub ack_arm : Gives2 r u v (ack_line id k (take n numbers) t large small) → Gives3 r store u v (later_by (Ack id k m) numbers t store large small)
  ack_arm g =
      let h : Gives2 r u v (ack_line id k (first_numbers m numbers) t large small) = subst (λ (l : List ℕ). Gives2 r u v (ack_line id k l t large small)) (ap (λ (x : ℕ). take x numbers) e) g in
      record { result = h.result; first = refl; second = h.first; third = h.second }

  pub frag_arm : Gives2 r u v (frag_line id k (take n numbers) t large small) → Gives3 r store u v (later_by (Frag id k m) numbers t store large small)
  frag_arm g =
      let h : Gives2 r u v (frag_line id k (first_numbers m numbers) t large small) = subst (λ (l : List ℕ). Gives2 r u v (frag_line id k l t large small)) (ap (λ (x : ℕ). take x numbers) e) g in
      record { result = h.result; first = refl; second = h.first; third = h.second }

-- the line
module _ (n : ℕ) (line : List ℕ) (t : Trace) (store large small : List ℕ) (numbers : List ℕ) where
  pub follow_none : Gives1 None numbers (command_left n (said n line)) → (r : Followed) → r ≡ refused_by not_understood t → Gives3 r store large small (followed_by (said n line) t store large small)
  follow_none g r e =
      gives_as (no_room (refused_by not_understood t) store large small) (followed_by (said n line) t store large small)
      (other_said (said n line) t store large small g.result)
      (record { result = e; first = refl; second = refl; third = refl })

  module _ (c : Command) (g : Gives1 (Some c) numbers (command_left n (said n line))) where
    pub follow_first : t.started ≡ false → (r : Followed) → r ≡ first_by c t → Gives3 r store large small (followed_by (said n line) t store large small)
    follow_first s r e =
        gives_as (no_room (first_line (said n line) t) store large small) (followed_by (said n line) t store large small)
        (sym (ap (λ (b : Bool). cond b (later_line (said n line) t store large small) (no_room (first_line (said n line) t) store large small)) s))
        (record { result = e ∙ first_said (said n line) c t g.result; first = refl; second = refl; third = refl })

    pub follow_later : t.started ≡ true → (r : Followed) (u v w : List ℕ) → Gives3 r u v w (later_by c numbers t store large small) → Gives3 r u v w (followed_by (said n line) t store large small)
    follow_later s r u v w k =
        let e : later_by c numbers t store large small ≡ later_line (said n line) t store large small
        = ap (λ (x : List ℕ). later_by c x t store large small) g.first ∙ later-said n (said n line) c t store large small g.result in
        gives_as (later_by c numbers t store large small) (followed_by (said n line) t store large small)
        (e ∙ sym (ap (λ (b : Bool). cond b (later_line (said n line) t store large small) (no_room (first_line (said n line) t) store large small)) s)) k
