-- A list of plain records that is lent to be read and looked at, and two `&mut` slices that are handed on with what is seen, proved once:
--     pub fn w(list: &[S], n: N, a: &mut [D], b: &mut [E], p: P, m: N', k: K) -> R    ensures  Gives2 r (a at exit) (b at exit) (F (G list p) n a b m k)
--     { let l = look(list, p); decide(l, n, a, b, m, k) }
-- where `look(list: &[S], p: P) -> B` ensures r ≡ G list p, and `decide(l: B, n: N, a: &mut [D], b: &mut [E], m: N', k: K) -> R` ensures `Gives2 r (a at exit) (b at exit) (F l n a b m k)`.
--     Decides      decide's contract.        looks_two     the MIR of w meets its contract, where the table's entries for the two meet theirs
-- Assumes `Logic`.
use mathlib.Core.Path.{◌≡◌, refl, ap, subst}
use mathlib.Core.List.{List, [], ◌∷◌}
use lib.ListN.{length}
use seplogic.Ra.Ura.{Ura}
use base.Fraction.{full_share}
use mir.Syntax.{Callee, Ty, Fn, named, erased, mut, ty_ref, deref, field, place, copy, local, value_local, seq, assign, call, return, addr_of, aggregate}
use mir.Val.{Val}
use base.Logic.{SProp, ent, emp, via, fst∗, id⊢}
use base.Fml.{Lft, Share, ftrue, fat, flft}
use prog.Wp.{Calls, Loops, WpFn, Tables}
use types.Logic.{Logic}
use contract.Monad.{fact}
use types.Kit.{‵, raw, ◌⊛◌, ⋆, some, later, ◌$◌, ◌∵◌, !, qed, by, move, keep, drop, use1, split, join, pick, rewrite, fsplit, fjoin, feq_l, suffices, frame, await, done}
use types.Run.{look, init, forget, stop, hop, fld, from, load, addr, and_then, no_more, assigns, land, returns, enter, alloc1, alloc0, params1, pass1, pass0, free1, free0}
use types.Part.{agg, whole, sub, look_in}
use sound.WpLaws.{FmC, fm_of, WpFn-mono}
use denote.Exit.{yes}
use denote.RattleType.{owns}
use denote.Shadow.{shadow}
use denote.Laws.{Is, shows}
use denote.Memory.{pointee}
use denote.Ref.{Bor, MutBor}
use denote.Slice.{slice_ty, slice_val, MutSlice, ShrSlice, Room, mut_slice_vals, shr_slice_vals, mut_slice_Tells, shr_slice_Tells}
use denote.Signature.{Signature, mut_slice_of, shr_slice_of}
use denote.Steps.{only, owned, peeks, heard, nothing}
use denote.Triple.Entry.{on_entry}
use denote.Triple.Spec.{Meets, triple_of}
use denote.Triple.Statement.{Contract, Triple}
use denote.Triple.Call.{calls_at}
use denote.Triple.Clauses.{Clauses, Ended, closing, ensured, lasts}
use denote.Triple.Walked.{says, Stays, gave_slice, stay_none, stay_dropped, walk_of, Goes-none, Goes-dropped, Goes-gave_slice, ends_at, walked, walk_Meets}
use Rattle.numbers.specs.Promise.{Left2, Gives2}
use Rattle.lent.proofs.Handed.{last_list}
use Rattle.lent.proofs.Plain.{Cell, row, slot, Ok}
use Rattle.lent.proofs.On.{Over1, list_ty, calls_on1}

-- S is the element, D and E what the slices hold, P what is looked for, N, N' and K the other parameters, B what is seen, R the answer
module _ (S N D E P N' K B R : Cell) (G : List S.Den → P.Den → B.Den) (F : B.Den → N.Den → List D.Den → List E.Den → N'.Den → K.Den → Left2 R.Den (List D.Den) (List E.Den)) where
  -- decide
  abbrev passed : Ended
  passed = record { signature = record { lifetimes = 2; outlives = []; params = slot B ∷ slot N ∷ mut_slice_of (0 ∷ []) tt (slot D) ∷ mut_slice_of (1 ∷ []) tt (slot E) ∷ slot N' ∷ slot K ∷ []; result = slot R }; kept = (yes, (yes, (yes, (yes, (yes, (yes, tt)))))) }

  abbrev passed_clauses : {M : Type 1} (𝓤 : Ura M) → Clauses 𝓤 passed
  passed_clauses 𝓤 κs a = record { ghost = Unit {0}; requires = λ _. emp 𝓤; ensures = λ _ r e. fact 𝓤 (Gives2 r e.1.1.0.now e.1.1.1.0.now (F a.0 a.1.0 a.1.1.0.now a.1.1.1.0.now a.1.1.1.1.0 a.1.1.1.1.1.0)) }

  -- w
  abbrev signature : Signature
  signature = record { lifetimes = 3; outlives = []; params = shr_slice_of (0 ∷ []) tt (slot S) ∷ slot N ∷ mut_slice_of (1 ∷ []) tt (slot D) ∷ mut_slice_of (2 ∷ []) tt (slot E) ∷ slot P ∷ slot N' ∷ slot K ∷ []; result = slot R }

  abbrev ended : Ended
  ended = record { signature = signature; kept = (yes, (yes, (yes, (yes, (yes, (yes, (yes, tt))))))) }

  abbrev clauses : {M : Type 1} (𝓤 : Ura M) → Clauses 𝓤 ended
  clauses 𝓤 κs a = record { ghost = Unit {0}; requires = λ _. emp 𝓤; ensures = λ _ r e. fact 𝓤 (Gives2 r e.1.1.0.now e.1.1.1.0.now (F (G a.0.now a.1.1.1.1.0) a.1.0 a.1.1.0.now a.1.1.1.0.now a.1.1.1.1.1.0 a.1.1.1.1.1.1.0)) }

  abbrev stayed : Stays ended.signature.params ended.kept
  stayed = (stay_dropped (shr_slice_of (0 ∷ []) tt (slot S)) yes, (stay_none (λ _. row N) yes, (gave_slice (1 ∷ []) tt (slot D), (gave_slice (2 ∷ []) tt (slot E), (stay_none (λ _. row P) yes, (stay_none (λ _. row N') yes, (stay_none (λ _. row K) yes, tt)))))))

  -- the slices as they are handed on
  abbrev handed : Cell → Ty
  handed X = ty_ref erased mut (pointee X.written)

  -- the MIR
  abbrev function : Callee → Callee → Fn
  function g₀ g₁ = record {
    lifetimes = 3;
    outlives = [];
    ty_params = [];
    givens = 0;
    params = 7;
    locals = local R.ty value_local ∷ local (list_ty S) value_local ∷ local N.ty value_local ∷ local (slice_ty (ty_ref (named 1) mut (pointee D.written))) value_local ∷ local (slice_ty (ty_ref (named 2) mut (pointee E.written))) value_local ∷ local P.ty value_local ∷ local N'.ty value_local ∷ local K.ty value_local ∷ local B.ty value_local ∷ local (handed D) value_local ∷ local (slice_ty (handed D)) value_local ∷ local (handed E) value_local ∷ local (slice_ty (handed E)) value_local ∷ [];
    body = seq (call g₀ (copy (place 1 []) ∷ copy (place 5 []) ∷ []) (place 8 []))
        (seq (assign (place 9 []) (addr_of (place 3 (field 0 ∷ deref D.ty ∷ []))))
        (seq (assign (place 10 []) (aggregate (copy (place 9 []) ∷ copy (place 3 (field 1 ∷ [])) ∷ [])))
        (seq (assign (place 11 []) (addr_of (place 4 (field 0 ∷ deref E.ty ∷ []))))
        (seq (assign (place 12 []) (aggregate (copy (place 11 []) ∷ copy (place 4 (field 1 ∷ [])) ∷ [])))
        (seq (call g₁ (copy (place 8 []) ∷ copy (place 2 []) ∷ copy (place 10 []) ∷ copy (place 12 []) ∷ copy (place 6 []) ∷ copy (place 7 []) ∷ []) (place 0 [])) return)))));
  }

  module _ {M : Type 1} {𝓤 : Ura M} (𝓛 : Logic 𝓤) where
    open 𝓛 use {H}

    abbrev pub Decides : Contract 𝓤
    Decides = triple_of 𝓛 passed.signature (closing 𝓛 passed (passed_clauses 𝓤))

    module _ (κ₀ κ₁ κ₂ : Lft) (q₀ q₁ q₂ : Share) (lr : Bor (List S.Den)) (ar : MutBor (List D.Den)) (br : MutBor (List E.Den)) (gl : Room (row S) (length lr.now)) (ga : Room (row D) (length ar.now)) (gb : Room (row E) (length br.now))
        (n : N.Den) (is-n : Ok N n) (p : P.Den) (is-p : Ok P p) (m : N'.Den) (is_m : Ok N' m) (k : K.Den) (is-k : Ok K k) where
      abbrev seen : B.Den
      seen = G lr.now p

      abbrev sl : Val
      sl = slice_val lr.ref_ptr (length lr.now)

      abbrev sa : Val
      sa = slice_val ar.ref_ptr (length ar.now)

      abbrev sb : Val
      sb = slice_val br.ref_ptr (length br.now)

      abbrev x : Bor (List S.Den) × (N.Den × (MutBor (List D.Den) × (MutBor (List E.Den) × (P.Den × (N'.Den × (K.Den × Unit {0}))))))
      x = (lr, (n, (ar, (br, (p, (m, (k, tt)))))))

      abbrev at : List Val × (List Val × (List Val × (List Val × (List Val × (List Val × (List Val × Unit {0}))))))
      at = (sl ∷ [], (N.val n ∷ [], (sa ∷ [], (sb ∷ [], (P.val p ∷ [], (N'.val m ∷ [], (K.val k ∷ [], tt)))))))

      abbrev Told : R.Den → List D.Den → List E.Den → Type 0
      Told r s t = Gives2 r s t (F seen n ar.now br.now m k)

      abbrev Post : Val → SProp 𝓤
      Post = (walk_of 𝓛 ended stayed (clauses 𝓤)).post (((κ₀, (κ₁, (κ₂, tt))), (q₀, (q₁, (q₂, tt))), tt, x, at), tt)

      exits : (r : R.Den) (s : List D.Den) (t : List E.Den) → Ok R r → length s ≡ length ar.now → length t ≡ length br.now → Told r s t
          → ent 𝓤 (⋆ 𝓛 (‵ (last_list D κ₁ ar s) ∷ ‵ (last_list E κ₂ br t) ∷ ‵ (flft κ₀ q₀) ∷ ‵ (flft κ₁ q₁) ∷ ‵ (flft κ₂ q₂) ∷ [])) (Post (R.val r))
      exits r s t ok len₁ len₂ e =
          qed 𝓛 (‵ (last_list D κ₁ ar s) ∷ ‵ (last_list E κ₂ br t) ∷ ‵ (flft κ₀ q₀) ∷ ‵ (flft κ₁ q₁) ∷ ‵ (flft κ₂ q₂) ∷ []) ∵
          suffices ! _ (ends_at 𝓛 ended stayed (clauses 𝓤) (((κ₀, (κ₁, (κ₂, tt))), (q₀, (q₁, (q₂, tt))), tt, x, at), tt) (R.val r) r (tt, (tt, (s, (t, (tt, (tt, (tt, tt))))))) (tt, (tt, (len₁, (len₂, (tt, (tt, (tt, tt)))))))) $
          says ! e $ nothing ! $ move ! (5 ∷ 0 ∷ []) $ join ! $ move ! (4 ∷ 0 ∷ []) $ join ! $ move ! (3 ∷ 0 ∷ []) $ join ! $ frame ! $
          -- [a's last; b's last]
          nothing ! $ owned ! (row K) (Is (row K)) (K.makes 𝓛) k _ is-k $ fjoin ! $ owned ! (row N') (Is (row N')) (N'.makes 𝓛) m _ is_m $ fjoin ! $ owned ! (row P) (Is (row P)) (P.makes 𝓛) p _ is-p $ fjoin ! $
          move ! (2 ∷ 0 ∷ []) $ fjoin ! $ move ! (1 ∷ 0 ∷ []) $ fjoin ! $ owned ! (row N) (Is (row N)) (N.makes 𝓛) n _ is-n $ fjoin ! $ nothing ! $ fjoin ! $ frame ! $
          owned ! (row R) (Is (row R)) (R.makes 𝓛) r _ ok $ done !

      abbrev to_g : Decides.Ghost
      to_g = (((κ₁, (κ₂, tt)), (q₁, (q₂, tt)), tt, (seen, (n, (ar, (br, (m, (k, tt)))))), (B.val seen ∷ [], (N.val n ∷ [], (sa ∷ [], (sb ∷ [], (N'.val m ∷ [], (K.val k ∷ [], tt))))))), tt)

      goes_in : Ok B seen → ent 𝓤 (⋆ 𝓛 (‵ (flft κ₁ q₁) ∷ ‵ (flft κ₂ q₂) ∷ ‵ ((MutSlice (named 0) κ₁ (row D)).own_val ar (sa ∷ [])) ∷ ‵ ((MutSlice (named 1) κ₂ (row E)).own_val br (sb ∷ [])) ∷ [])) (Decides.pre to_g)
      goes_in ok =
          qed 𝓛 (‵ (flft κ₁ q₁) ∷ ‵ (flft κ₂ q₂) ∷ ‵ ((MutSlice (named 0) κ₁ (row D)).own_val ar (sa ∷ [])) ∷ ‵ ((MutSlice (named 1) κ₂ (row E)).own_val br (sb ∷ [])) ∷ []) ∵
          nothing ! $ owned ! (row K) (Is (row K)) (K.makes 𝓛) k _ is-k $ fjoin ! $ owned ! (row N') (Is (row N')) (N'.makes 𝓛) m _ is_m $ fjoin ! $ move ! (4 ∷ 0 ∷ []) $ fjoin ! $ move ! (3 ∷ 0 ∷ []) $ fjoin ! $
          owned ! (row N) (Is (row N)) (N.makes 𝓛) n _ is-n $ fjoin ! $ owned ! (row B) (Is (row B)) (B.makes 𝓛) seen _ ok $ fjoin ! $
          nothing ! $ move ! (3 ∷ 0 ∷ []) $ join ! $ move ! (2 ∷ 0 ∷ []) $ join ! $ join ! $ frame ! $ done !

      module _ (g₀ g₁ : Callee) (C : Calls 𝓤 H) (Λ : Loops 𝓤 H) (fm : FmC 𝓤 H 𝓛.laws C) (known₀ : Triple 𝓤 (C g₀) (Over1 𝓤 𝓛 S P B G)) (known₁ : Triple 𝓤 (C g₁) Decides) where
        walk : ent 𝓤 (on_entry 𝓛 signature (κ₀, (κ₁, (κ₂, tt))) (q₀, (q₁, (q₂, tt))) x at) (WpFn 𝓤 H C Λ (function g₀ g₁) (sl ∷ N.val n ∷ sa ∷ sb ∷ P.val p ∷ N'.val m ∷ K.val k ∷ []) Post)
        walk =
            qed 𝓛 ((‵ (flft κ₀ q₀) ⊛ ‵ (flft κ₁ q₁) ⊛ ‵ (flft κ₂ q₂) ⊛ ‵ ftrue) ∷ ‵ (owns (ShrSlice (named 0) κ₀ (row S) ∷ row N ∷ MutSlice (named 1) κ₁ (row D) ∷ MutSlice (named 2) κ₂ (row E) ∷ row P ∷ row N' ∷ row K ∷ []) x at) ∷ []) ∵
            split ! $ move ! (1 ∷ []) $ split ! $ move ! (1 ∷ []) $ split ! $ move ! (4 ∷ []) $ fsplit ! $
            move ! (1 ∷ []) $ fsplit ! $ drop ! $ fsplit ! $ move ! (1 ∷ []) $ fsplit ! $
            keep ! (7 ∷ 3 ∷ 2 ∷ 0 ∷ 6 ∷ 4 ∷ []) $
            -- [κ₀; list; a; b; κ₁; κ₂]
            enter ! C Λ (function g₀ g₁) (sl ∷ N.val n ∷ sa ∷ sb ∷ P.val p ∷ N'.val m ∷ K.val k ∷ []) _ $
            alloc1 ! (λ l₀. alloc1 ! (λ l₁. alloc1 ! (λ l₂. alloc1 ! (λ l₃. alloc1 ! (λ l₄. alloc1 ! (λ l₅. alloc1 ! (λ l₆. alloc1 ! (λ l₇. alloc1 ! (λ l₈. alloc1 ! (λ l₉. alloc1 ! (λ m₀. alloc1 ! (λ m₁. alloc1 ! (λ m₂. alloc0 ! $ params1 ! $
            pass1 ! (init ! 22 refl (tt, (tt, (record { fits = gl.0 }, tt)))) $ pass1 ! (init ! 20 refl (N.typed 𝓛 n _ is-n).0) $ pass1 ! (init ! 18 refl (tt, (tt, (record { fits = ga.0 }, tt)))) $ pass1 ! (init ! 16 refl (tt, (tt, (record { fits = gb.0 }, tt)))) $
            pass1 ! (init ! 14 refl (P.typed 𝓛 p _ is-p).0) $ pass1 ! (init ! 12 refl (N'.typed 𝓛 m _ is_m).0) $ pass1 ! (init ! 10 refl (K.typed 𝓛 k _ is-k).0) $ pass0 ! $
            move ! (26 ∷ 27 ∷ []) $
            -- [κ₀; list; the locals, the last first; a; b; κ₁; κ₂]
            calls_on1 ! fm S P B G known₀ κ₀ q₀ lr p is-p (and_then ! (load ! (from ! (stop !)) (look ! 24 refl)) (and_then ! (load ! (from ! (stop !)) (look ! 16 refl)) (no_more !))) (λ is-l.
            land ! (from ! (stop !)) (init ! 10 refl (B.typed 𝓛 seen _ is-l).0) $
            assigns ! (addr ! (from ! (fld ! refl (hop ! (look_in ! 20 (sub ! 0 refl (whole !))) (stop !))))) (from ! (stop !)) (init ! 8 refl (tt, tt)) $
            assigns ! (agg ! (and_then ! (load ! (from ! (stop !)) (look ! 8 refl)) (and_then ! (load ! (from ! (fld ! refl (stop !))) (look_in ! 20 (sub ! 1 refl (whole !)))) (no_more !)))) (from ! (stop !)) (init ! 6 refl (tt, (tt, (record { fits = ga.0 }, tt)))) $
            assigns ! (addr ! (from ! (fld ! refl (hop ! (look_in ! 18 (sub ! 0 refl (whole !))) (stop !))))) (from ! (stop !)) (init ! 4 refl (tt, tt)) $
            assigns ! (agg ! (and_then ! (load ! (from ! (stop !)) (look ! 4 refl)) (and_then ! (load ! (from ! (fld ! refl (stop !))) (look_in ! 18 (sub ! 1 refl (whole !)))) (no_more !)))) (from ! (stop !)) (init ! 2 refl (tt, (tt, (record { fits = gb.0 }, tt)))) $
            move ! (28 ∷ 29 ∷ []) $ join ! $ move ! (30 ∷ 0 ∷ []) $ join ! $ move ! (29 ∷ 0 ∷ []) $ join ! $ use1 𝓛 (raw (Decides.pre to_g)) (goes_in is-l) $
            -- [what decide is given; κ₀; list; the locals]
            calls_at ! fm Decides known₁ to_g (and_then ! (load ! (from ! (stop !)) (look ! 11 refl)) (and_then ! (load ! (from ! (stop !)) (look ! 23 refl)) (and_then ! (load ! (from ! (stop !)) (look ! 7 refl)) (and_then ! (load ! (from ! (stop !)) (look ! 3 refl)) (and_then ! (load ! (from ! (stop !)) (look ! 15 refl)) (and_then ! (load ! (from ! (stop !)) (look ! 13 refl)) (no_more !))))))) (λ v.
            use1 𝓛 (later (some (λ (res : R.Den). ((‵ (flft κ₁ q₁) ⊛ ‵ (flft κ₂ q₂) ⊛ ‵ ftrue) ⊛ ‵ (R.own res (v ∷ []))) ⊛ raw (ensured 𝓛 passed (passed_clauses 𝓤) (κ₁, (κ₂, tt)) (seen, (n, (ar, (br, (m, (k, tt)))))) tt res)))) (id⊢ 𝓤 _) $ await ! tt $ pick ! (λ res.
            split ! $ move ! (1 ∷ []) $ use1 𝓛 (some (λ (ws : Unit {0} × (Unit {0} × (List D.Den × (List E.Den × (Unit {0} × (Unit {0} × Unit {0})))))). ‵ (lasts passed (κ₁, (κ₂, tt)) (seen, (n, (ar, (br, (m, (k, tt)))))) ws) ⊛ raw (fact 𝓤 (Told res ws.1.1.0 ws.1.1.1.0)))) (id⊢ 𝓤 _) $ pick ! (λ ws.
            split ! $ move ! (1 ∷ []) $ heard ! (Told res ws.1.1.0 ws.1.1.1.0) (λ e. fsplit ! $ drop ! $ fsplit ! $ drop ! $ fsplit ! $ fsplit ! $ fsplit ! $ move ! (1 ∷ []) $ feq_l ! (λ len₁. fjoin ! $ move ! (1 ∷ []) $ fsplit ! $ fsplit ! $ fsplit ! $ move ! (1 ∷ []) $ feq_l ! (λ len₂. fjoin ! $
            -- [b's last list; …; a's last list; the tokens and the result; κ₀; list; the locals]
            move ! (3 ∷ []) $ split ! $ move ! (1 ∷ []) $ peeks ! (row R) (Is (row R)) (shows 𝓛 (row R)) res (v ∷ []) (λ is-r. drop ! $
            land ! (from ! (stop !)) (init ! 30 refl (R.typed 𝓛 res _ is-r).0) $ rewrite ! 30 (λ (z : Val). ‵ (fat full_share R.ty l₀ 0 z)) (ap only (R.tells res _ is-r)) refl $
            -- [the tokens; b's last list; …; a's last list; κ₀; list; the locals]
            returns ! (look ! 30 refl) $ forget ! 6 refl $ forget ! 8 refl $ forget ! 10 refl $ forget ! 12 refl $ forget ! 14 refl $ forget ! 16 refl $ forget ! 18 refl $ forget ! 20 refl $ forget ! 22 refl $ forget ! 24 refl $ forget ! 26 refl $ forget ! 28 refl $ forget ! 30 refl $
            move ! (30 ∷ 31 ∷ []) $ free1 ! $ move ! (28 ∷ 29 ∷ []) $ free1 ! $ move ! (26 ∷ 27 ∷ []) $ free1 ! $ move ! (24 ∷ 25 ∷ []) $ free1 ! $ move ! (22 ∷ 23 ∷ []) $ free1 ! $ move ! (20 ∷ 21 ∷ []) $ free1 ! $ move ! (18 ∷ 19 ∷ []) $ free1 ! $ move ! (16 ∷ 17 ∷ []) $ free1 ! $ move ! (14 ∷ 15 ∷ []) $ free1 ! $ move ! (12 ∷ 13 ∷ []) $ free1 ! $ move ! (10 ∷ 11 ∷ []) $ free1 ! $ move ! (8 ∷ 9 ∷ []) $ free1 ! $ move ! (6 ∷ 7 ∷ []) $ free1 ! $ free0 ! $
            split ! $ move ! (1 ∷ []) $ split ! $ keep ! (5 ∷ 3 ∷ 6 ∷ 2 ∷ 0 ∷ []) $
            by ! (exits res ws.1.1.0 ws.1.1.1.0 (subst (λ (vs : List Val). shadow (R.own res vs)) (R.tells res _ is-r) is-r) len₁ len₂ e))))))))))))))))))))))

    pub looks_two : (g₀ g₁ : Callee) (𝓣 : Tables 𝓤 H) → Triple 𝓤 (𝓣.C g₀) (Over1 𝓤 𝓛 S P B G) → Triple 𝓤 (𝓣.C g₁) Decides → Meets 𝓛 signature (WpFn 𝓤 H 𝓣.C 𝓣.Λ (function g₀ g₁)) (closing 𝓛 ended (clauses 𝓤))
    looks_two g₀ g₁ 𝓣 known₀ known₁ = walk_Meets 𝓛 ended stayed (Goes-dropped 𝓛 3 (shr_slice_of (0 ∷ []) tt (slot S)) yes (λ κs x f. refl), (Goes-none 𝓛 3 (λ _. row N) yes (λ κs x f. refl), (Goes-gave_slice 𝓛 3 1 tt (slot D), (Goes-gave_slice 𝓛 3 2 tt (slot E), (Goes-none 𝓛 3 (λ _. row P) yes (λ κs x f. refl), (Goes-none 𝓛 3 (λ _. row N') yes (λ κs x f. refl), (Goes-none 𝓛 3 (λ _. row K) yes (λ κs x f. refl), tt))))))) (clauses 𝓤)
        (WpFn 𝓤 H 𝓣.C 𝓣.Λ (function g₀ g₁)) (WpFn-mono 𝓤 H 𝓛.laws 𝓣 (function g₀ g₁))
        (walked 𝓛 ended stayed (clauses 𝓤) (WpFn 𝓤 H 𝓣.C 𝓣.Λ (function g₀ g₁)) (λ κs. (shr_slice_vals, ((λ y. N.val y ∷ []), (mut_slice_vals, (mut_slice_vals, ((λ y. P.val y ∷ []), ((λ y. N'.val y ∷ []), ((λ y. K.val y ∷ []), tt))))))))
        (λ κs. (shr_slice_Tells (named 0) κs.0 (row S), (N.tells, (mut_slice_Tells (named 1) κs.1.0 (row D), (mut_slice_Tells (named 2) κs.1.1.0 (row E), (P.tells, (N'.tells, (K.tells, tt))))))))
        (λ κs qs bounds a _ are. via 𝓤 _ (fst∗ 𝓤 _ (emp 𝓤)) (walk κs.0 κs.1.0 κs.1.1.0 qs.0 qs.1.0 qs.1.1.0 a.0 a.1.1.0 a.1.1.1.0 are.0.0.1 are.1.1.0.0.1 are.1.1.1.0.0.1
        a.1.0 are.1.0 a.1.1.1.1.0 are.1.1.1.1.0 a.1.1.1.1.1.0 are.1.1.1.1.1.0 a.1.1.1.1.1.1.0 are.1.1.1.1.1.1.0 g₀ g₁ 𝓣.C 𝓣.Λ (fm_of 𝓤 H 𝓛.laws 𝓣) known₀ known₁)))
