-- A lent list of plain records that is handed on, proved once:
--     pub fn w(list: &mut [S], p: P) -> Q    ensures  Gives1 r (the list at exit) (o list p)
--     { g(list, p) }
-- where `g(list: &mut [S], p: P) -> Q` ensures the same.
--     Same     the contract of both.        hands_on     the MIR of w meets it, where the table's entry for g does
-- Assumes `Logic`.
use mathlib.Core.Path.{◌≡◌, refl, ap, subst}
use mathlib.Core.List.{List, [], ◌∷◌}
use lib.ListN.{length}
use seplogic.Ra.Ura.{Ura}
use base.Fraction.{full_share}
use mir.Syntax.{Callee, Fn, named, erased, mut, ty_ref, deref, field, place, copy, local, value_local, seq, assign, call, return, addr_of, aggregate}
use mir.Val.{Val}
use base.Logic.{SProp, ent, emp, via, fst∗, id⊢}
use base.Fml.{Lft, Share, ftrue, flft, fat}
use prog.Wp.{Calls, Loops, WpFn, Tables}
use types.Logic.{Logic}
use contract.Monad.{fact}
use types.Kit.{‵, raw, some, later, ◌⊛◌, ⋆, ◌$◌, ◌∵◌, !, qed, by, move, keep, drop, use1, split, join, pick, rewrite, fsplit, fjoin, feq_l, suffices, frame, await, done}
use types.Run.{look, init, forget, stop, hop, fld, from, load, addr, and_then, no_more, assigns, land, returns, enter, alloc1, alloc0, params1, pass1, pass0, free1, free0}
use types.Part.{agg, whole, sub, look_in}
use sound.WpLaws.{FmC, fm_of, WpFn-mono}
use denote.Exit.{yes}
use denote.RattleType.{owns}
use denote.Shadow.{shadow}
use denote.Laws.{Is, shows}
use denote.Memory.{pointee}
use denote.Ref.{MutBor}
use denote.Slice.{slice_ty, slice_val, MutSlice, Room, mut_slice_vals, mut_slice_Tells}
use denote.Signature.{Signature, mut_slice_of}
use denote.Steps.{only, owned, peeks, heard, nothing}
use denote.Triple.Entry.{on_entry}
use denote.Triple.Spec.{Meets, triple_of}
use denote.Triple.Statement.{Contract, Triple}
use denote.Triple.Call.{calls_at}
use denote.Triple.Clauses.{Clauses, Ended, closing, ensured, lasts}
use denote.Triple.Walked.{says, Stays, gave_slice, stay_none, walk_of, Goes-none, Goes-gave_slice, ends_at, walked, walk_Meets}
use Rattle.numbers.specs.Promise.{Left1, Gives1}
use Rattle.lent.proofs.Handed.{last_list}
use Rattle.lent.proofs.Plain.{Cell, row, slot, Ok}

-- S is the element, P the parameter, Q the answer
module _ (S P Q : Cell) (o : List S.Den → P.Den → Left1 Q.Den (List S.Den)) where
  abbrev signature : Signature
  signature = record { lifetimes = 1; outlives = []; params = mut_slice_of (0 ∷ []) tt (slot S) ∷ slot P ∷ []; result = slot Q }

  abbrev ended : Ended
  ended = record { signature = signature; kept = (yes, (yes, tt)) }

  abbrev clauses : {M : Type 1} (𝓤 : Ura M) → Clauses 𝓤 ended
  clauses 𝓤 κs a = record { ghost = Unit {0}; requires = λ _. emp 𝓤; ensures = λ _ r e. fact 𝓤 (Gives1 r e.0.now (o a.0.now a.1.0)) }

  abbrev stayed : Stays ended.signature.params ended.kept
  stayed = (gave_slice (0 ∷ []) tt (slot S), (stay_none (λ _. row P) yes, tt))

  -- the MIR: the result, list, p, and the list lent again
  abbrev wrapper : Callee → Fn
  wrapper g = record {
    lifetimes = 1;
    outlives = [];
    ty_params = [];
    givens = 0;
    params = 2;
    locals = local Q.ty value_local ∷ local (slice_ty (ty_ref (named 0) mut (pointee S.written))) value_local ∷ local P.ty value_local
        ∷ local (ty_ref erased mut (pointee S.written)) value_local ∷ local (slice_ty (ty_ref erased mut (pointee S.written))) value_local ∷ [];
    body = seq (assign (place 3 []) (addr_of (place 1 (field 0 ∷ deref S.ty ∷ []))))
        (seq (assign (place 4 []) (aggregate (copy (place 3 []) ∷ copy (place 1 (field 1 ∷ [])) ∷ [])))
        (seq (call g (copy (place 4 []) ∷ copy (place 2 []) ∷ []) (place 0 [])) return));
  }

  module _ {M : Type 1} {𝓤 : Ura M} (𝓛 : Logic 𝓤) where
    open 𝓛 use {H}

    abbrev pub Same : Contract 𝓤
    Same = triple_of 𝓛 signature (closing 𝓛 ended (clauses 𝓤))

    module _ (κ : Lft) (q : Share) (ar : MutBor (List S.Den)) (ga : Room (row S) (length ar.now)) (p : P.Den) (is-p : Ok P p) where
      abbrev sa : Val
      sa = slice_val ar.ref_ptr (length ar.now)

      abbrev x : MutBor (List S.Den) × (P.Den × Unit {0})
      x = (ar, (p, tt))

      abbrev at : List Val × (List Val × Unit {0})
      at = (sa ∷ [], (P.val p ∷ [], tt))

      abbrev Post : Val → SProp 𝓤
      Post = (walk_of 𝓛 ended stayed (clauses 𝓤)).post (((κ, tt), (q, tt), tt, x, at), tt)

      abbrev Told : Q.Den → List S.Den → Type 0
      Told m ys = Gives1 m ys (o ar.now p)

      exits : (m : Q.Den) (ys : List S.Den) → Ok Q m → Told m ys → length ys ≡ length ar.now → ent 𝓤 (⋆ 𝓛 (‵ (last_list S κ ar ys) ∷ ‵ (flft κ q) ∷ [])) (Post (Q.val m))
      exits m ys ok e len =
          qed 𝓛 (‵ (last_list S κ ar ys) ∷ ‵ (flft κ q) ∷ []) ∵
          suffices ! _ (ends_at 𝓛 ended stayed (clauses 𝓤) (((κ, tt), (q, tt), tt, x, at), tt) (Q.val m) m (ys, (tt, tt)) (len, (tt, tt))) $
          says ! e $ nothing ! $ move ! (2 ∷ 0 ∷ []) $ join ! $ frame ! $
          nothing ! $ owned ! (row P) (Is (row P)) (P.makes 𝓛) p _ is-p $ fjoin ! $ move ! (1 ∷ 0 ∷ []) $ fjoin ! $
          owned ! (row Q) (Is (row Q)) (Q.makes 𝓛) m _ ok $ move ! (1 ∷ 0 ∷ []) $ done !

      abbrev to_g : Same.Ghost
      to_g = (((κ, tt), (q, tt), tt, x, at), tt)

      goes_in : ent 𝓤 (⋆ 𝓛 (‵ (flft κ q) ∷ ‵ ((MutSlice (named 0) κ (row S)).own_val ar (sa ∷ [])) ∷ [])) (Same.pre to_g)
      goes_in =
          qed 𝓛 (‵ (flft κ q) ∷ ‵ ((MutSlice (named 0) κ (row S)).own_val ar (sa ∷ [])) ∷ []) ∵
          nothing ! $ owned ! (row P) (Is (row P)) (P.makes 𝓛) p _ is-p $ fjoin ! $ move ! (2 ∷ 0 ∷ []) $ fjoin ! $
          nothing ! $ move ! (2 ∷ 0 ∷ []) $ join ! $ join ! $ frame ! $ done !

      module _ (g : Callee) (C : Calls 𝓤 H) (Λ : Loops 𝓤 H) (fm : FmC 𝓤 H 𝓛.laws C) (known : Triple 𝓤 (C g) Same) where
        walk : ent 𝓤 (on_entry 𝓛 signature (κ, tt) (q, tt) x at) (WpFn 𝓤 H C Λ (wrapper g) (sa ∷ P.val p ∷ []) Post)
        walk =
            qed 𝓛 ((‵ (flft κ q) ⊛ ‵ ftrue) ∷ ‵ (owns (MutSlice (named 0) κ (row S) ∷ row P ∷ []) x at) ∷ []) ∵
            split ! $ move ! (2 ∷ []) $ fsplit ! $
            -- [list; p's; κ; true]
            enter ! C Λ (wrapper g) (sa ∷ P.val p ∷ []) _ $
            alloc1 ! (λ l₀. alloc1 ! (λ l₁. alloc1 ! (λ l₂. alloc1 ! (λ l₃. alloc1 ! (λ l₄. alloc0 ! $ params1 ! $
            pass1 ! (init ! 6 refl (tt, (tt, (record { fits = ga.0 }, tt)))) $ pass1 ! (init ! 4 refl (P.typed 𝓛 p _ is-p).0) $ pass0 ! $
            -- [the locals, the last first; list; p's; κ; true]
            assigns ! (addr ! (from ! (fld ! refl (hop ! (look_in ! 6 (sub ! 0 refl (whole !))) (stop !))))) (from ! (stop !)) (init ! 2 refl (tt, tt)) $
            assigns ! (agg ! (and_then ! (load ! (from ! (stop !)) (look ! 2 refl)) (and_then ! (load ! (from ! (fld ! refl (stop !))) (look_in ! 6 (sub ! 1 refl (whole !)))) (no_more !)))) (from ! (stop !)) (init ! 0 refl (tt, (tt, (record { fits = ga.0 }, tt)))) $
            move ! (12 ∷ 10 ∷ []) $ join ! $ use1 𝓛 (raw (Same.pre to_g)) goes_in $
            calls_at ! fm Same known to_g (and_then ! (load ! (from ! (stop !)) (look ! 1 refl)) (and_then ! (load ! (from ! (stop !)) (look ! 5 refl)) (no_more !))) (λ v.
            use1 𝓛 (later (some (λ (m : Q.Den). ((‵ (flft κ q) ⊛ ‵ ftrue) ⊛ ‵ (Q.own m (v ∷ []))) ⊛ raw (ensured 𝓛 ended (clauses 𝓤) (κ, tt) x tt m)))) (id⊢ 𝓤 _) $ await ! tt $ pick ! (λ m.
            split ! $ move ! (1 ∷ []) $ use1 𝓛 (some (λ (ws : List S.Den × (Unit {0} × Unit {0})). ‵ (lasts ended (κ, tt) x ws) ⊛ raw (fact 𝓤 (Told m ws.0)))) (id⊢ 𝓤 _) $ pick ! (λ ws.
            split ! $ move ! (1 ∷ []) $ heard ! (Told m ws.0) (λ e. fsplit ! $ fsplit ! $ fsplit ! $ move ! (1 ∷ []) $ feq_l ! (λ len. fjoin ! $
            -- [list's last; …; the token and m; the locals; …]
            move ! (2 ∷ []) $ split ! $ move ! (1 ∷ []) $ peeks ! (row Q) (Is (row Q)) (shows 𝓛 (row Q)) m (v ∷ []) (λ is. drop ! $
            land ! (from ! (stop !)) (init ! 11 refl (Q.typed 𝓛 m _ is).0) $ rewrite ! 11 (λ (u : Val). ‵ (fat full_share Q.ty l₀ 0 u)) (ap only (Q.tells m _ is)) refl $
            -- [the token; list's last; …; the locals; …]
            returns ! (look ! 11 refl) $ forget ! 3 refl $ forget ! 5 refl $ forget ! 7 refl $ forget ! 9 refl $ forget ! 11 refl $
            move ! (11 ∷ 12 ∷ []) $ free1 ! $ move ! (9 ∷ 10 ∷ []) $ free1 ! $ move ! (7 ∷ 8 ∷ []) $ free1 ! $ move ! (5 ∷ 6 ∷ []) $ free1 ! $ move ! (3 ∷ 4 ∷ []) $ free1 ! $ free0 ! $
            split ! $ keep ! (2 ∷ 0 ∷ []) $ by ! (exits m ws.0 (subst (λ (vs : List Val). shadow (Q.own m vs)) (Q.tells m _ is) is) e len))))))))))))

    pub hands_on : (g : Callee) (𝓣 : Tables 𝓤 H) → Triple 𝓤 (𝓣.C g) Same → Meets 𝓛 signature (WpFn 𝓤 H 𝓣.C 𝓣.Λ (wrapper g)) (closing 𝓛 ended (clauses 𝓤))
    hands_on g 𝓣 known = walk_Meets 𝓛 ended stayed (Goes-gave_slice 𝓛 1 0 tt (slot S), (Goes-none 𝓛 1 (λ _. row P) yes (λ κs x f. refl), tt)) (clauses 𝓤)
        (WpFn 𝓤 H 𝓣.C 𝓣.Λ (wrapper g)) (WpFn-mono 𝓤 H 𝓛.laws 𝓣 (wrapper g))
        (walked 𝓛 ended stayed (clauses 𝓤) (WpFn 𝓤 H 𝓣.C 𝓣.Λ (wrapper g)) (λ κs. (mut_slice_vals, ((λ y. P.val y ∷ []), tt))) (λ κs. (mut_slice_Tells (named 0) κs.0 (row S), (P.tells, tt)))
        (λ κs qs bounds a _ are. via 𝓤 _ (fst∗ 𝓤 _ (emp 𝓤)) (walk κs.0 qs.0 a.0 are.0.0.1 a.1.0 are.1.0 g 𝓣.C 𝓣.Λ (fm_of 𝓤 H 𝓛.laws 𝓣) known)))
