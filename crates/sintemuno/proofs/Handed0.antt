-- A list of plain records, lent to be read and handed on, proved once:
--     pub fn w(list: &[S]) -> Q    ensures  r ≡ G list
--     { g(list) }
-- where `g(list: &[S]) -> Q` ensures the same.
--     Same     the contract of both.        hands_on     the MIR of w meets it, where the table's entry for g does
-- Assumes `Logic`.
use mathlib.Core.Path.{◌≡◌, refl, ap, subst}
use mathlib.Core.List.{List, [], ◌∷◌}
use lib.ListN.{length}
use seplogic.Ra.Ura.{Ura}
use base.Fraction.{full_share}
use mir.Syntax.{Callee, Fn, named, imm, ty_ref, place, copy, local, value_local, seq, call, return}
use mir.Val.{Val}
use base.Logic.{SProp, ent, emp, via, fst∗, id⊢}
use base.Fml.{Lft, Share, ftrue, flft, fat}
use prog.Wp.{Calls, Loops, WpFn, Tables}
use types.Logic.{Logic}
use contract.Monad.{fact}
use types.Kit.{‵, raw, some, later, ◌⊛◌, ⋆, ◌$◌, ◌∵◌, !, qed, by, move, keep, drop, use1, split, join, pick, rewrite, fsplit, fjoin, suffices, frame, await, done}
use types.Run.{look, init, forget, stop, from, load, and_then, no_more, land, returns, enter, alloc1, alloc0, params1, pass1, pass0, free1, free0}
use sound.WpLaws.{FmC, fm_of, WpFn-mono}
use denote.Exit.{yes}
use denote.RattleType.{owns}
use denote.Shadow.{shadow}
use denote.Laws.{Is, shows}
use denote.Memory.{pointee}
use denote.Ref.{Bor}
use denote.Slice.{slice_ty, slice_val, ShrSlice, Room, shr_slice_vals, shr_slice_Tells}
use denote.Signature.{Signature, shr_slice_of}
use denote.Steps.{only, owned, peeks, heard, nothing}
use denote.Triple.Entry.{on_entry}
use denote.Triple.Spec.{Meets, triple_of}
use denote.Triple.Statement.{Contract, Triple}
use denote.Triple.Call.{calls_at}
use denote.Triple.Clauses.{Clauses, Ended, closing, ensured, lasts}
use denote.Triple.Walked.{says, Stays, stay_dropped, walk_of, Goes-dropped, ends_at, walked, walk_Meets}
use Rattle.lent.proofs.Plain.{Cell, row, slot, Ok}

-- S is the element, Q the answer
module _ (S Q : Cell) (G : List S.Den → Q.Den) where
  abbrev signature : Signature
  signature = record { lifetimes = 1; outlives = []; params = shr_slice_of (0 ∷ []) tt (slot S) ∷ []; result = slot Q }

  abbrev ended : Ended
  ended = record { signature = signature; kept = (yes, tt) }

  abbrev clauses : {M : Type 1} (𝓤 : Ura M) → Clauses 𝓤 ended
  clauses 𝓤 κs a = record { ghost = Unit {0}; requires = λ _. emp 𝓤; ensures = λ _ r e. fact 𝓤 (r ≡ G a.0.now) }

  abbrev stayed : Stays ended.signature.params ended.kept
  stayed = (stay_dropped (shr_slice_of (0 ∷ []) tt (slot S)) yes, tt)

  -- the MIR: the result and list
  abbrev wrapper : Callee → Fn
  wrapper g = record {
    lifetimes = 1;
    outlives = [];
    ty_params = [];
    givens = 0;
    params = 1;
    locals = local Q.ty value_local ∷ local (slice_ty (ty_ref (named 0) imm (pointee S.written))) value_local ∷ [];
    body = seq (call g (copy (place 1 []) ∷ []) (place 0 [])) return;
  }

  module _ {M : Type 1} {𝓤 : Ura M} (𝓛 : Logic 𝓤) where
    open 𝓛 use {H}

    abbrev pub Same : Contract 𝓤
    Same = triple_of 𝓛 signature (closing 𝓛 ended (clauses 𝓤))

    module _ (κ : Lft) (q : Share) (ar : Bor (List S.Den)) (ga : Room (row S) (length ar.now)) where
      abbrev sa : Val
      sa = slice_val ar.ref_ptr (length ar.now)

      abbrev x : Bor (List S.Den) × Unit {0}
      x = (ar, tt)

      abbrev at : List Val × Unit {0}
      at = (sa ∷ [], tt)

      abbrev Post : Val → SProp 𝓤
      Post = (walk_of 𝓛 ended stayed (clauses 𝓤)).post (((κ, tt), (q, tt), tt, x, at), tt)

      exits : (m : Q.Den) → Ok Q m → m ≡ G ar.now → ent 𝓤 (⋆ 𝓛 (‵ (flft κ q) ∷ [])) (Post (Q.val m))
      exits m ok e =
          qed 𝓛 (‵ (flft κ q) ∷ []) ∵ suffices ! _ (ends_at 𝓛 ended stayed (clauses 𝓤) (((κ, tt), (q, tt), tt, x, at), tt) (Q.val m) m (tt, tt) (tt, tt)) $
          says ! e $ nothing ! $ move ! (1 ∷ 0 ∷ []) $ join ! $ frame ! $
          nothing ! $ nothing ! $ fjoin ! $
          owned ! (row Q) (Is (row Q)) (Q.makes 𝓛) m _ ok $ move ! (1 ∷ 0 ∷ []) $ done !

      abbrev to_g : Same.Ghost
      to_g = (((κ, tt), (q, tt), tt, x, at), tt)

      goes_in : ent 𝓤 (⋆ 𝓛 (‵ (flft κ q) ∷ ‵ ((ShrSlice (named 0) κ (row S)).own_val ar (sa ∷ [])) ∷ [])) (Same.pre to_g)
      goes_in =
          qed 𝓛 (‵ (flft κ q) ∷ ‵ ((ShrSlice (named 0) κ (row S)).own_val ar (sa ∷ [])) ∷ []) ∵
          nothing ! $ move ! (2 ∷ 0 ∷ []) $ fjoin ! $
          nothing ! $ move ! (2 ∷ 0 ∷ []) $ join ! $ join ! $ frame ! $ done !

      module _ (g : Callee) (C : Calls 𝓤 H) (Λ : Loops 𝓤 H) (fm : FmC 𝓤 H 𝓛.laws C) (known : Triple 𝓤 (C g) Same) where
        walk : ent 𝓤 (on_entry 𝓛 signature (κ, tt) (q, tt) x at) (WpFn 𝓤 H C Λ (wrapper g) (sa ∷ []) Post)
        walk =
            qed 𝓛 ((‵ (flft κ q) ⊛ ‵ ftrue) ∷ ‵ (owns (ShrSlice (named 0) κ (row S) ∷ []) x at) ∷ []) ∵
            split ! $ move ! (2 ∷ []) $ fsplit ! $
            -- [list; true; κ; true]
            enter ! C Λ (wrapper g) (sa ∷ []) _ $
            alloc1 ! (λ l₀. alloc1 ! (λ l₁. alloc0 ! $ params1 ! $
            pass1 ! (init ! 0 refl (tt, (tt, (record { fits = ga.0 }, tt)))) $ pass0 ! $
            -- [the locals, the last first; list; true; κ; true]
            move ! (6 ∷ 4 ∷ []) $ join ! $ use1 𝓛 (raw (Same.pre to_g)) goes_in $
            calls_at ! fm Same known to_g (and_then ! (load ! (from ! (stop !)) (look ! 1 refl)) (no_more !)) (λ v.
            use1 𝓛 (later (some (λ (m : Q.Den). ((‵ (flft κ q) ⊛ ‵ ftrue) ⊛ ‵ (Q.own m (v ∷ []))) ⊛ raw (ensured 𝓛 ended (clauses 𝓤) (κ, tt) x tt m)))) (id⊢ 𝓤 _) $ await ! tt $ pick ! (λ m.
            split ! $ move ! (1 ∷ []) $ use1 𝓛 (some (λ (ws : Unit {0} × Unit {0}). ‵ (lasts ended (κ, tt) x ws) ⊛ raw (fact 𝓤 (m ≡ G ar.now)))) (id⊢ 𝓤 _) $ pick ! (λ ws.
            split ! $ drop ! $ heard ! (m ≡ G ar.now) (λ e.
            -- [the token and m; the locals; …]
            split ! $ move ! (1 ∷ []) $ peeks ! (row Q) (Is (row Q)) (shows 𝓛 (row Q)) m (v ∷ []) (λ is. drop ! $
            land ! (from ! (stop !)) (init ! 3 refl (Q.typed 𝓛 m _ is).0) $ rewrite ! 3 (λ (u : Val). ‵ (fat full_share Q.ty l₀ 0 u)) (ap only (Q.tells m _ is)) refl $
            -- [the token; the locals; …]
            returns ! (look ! 3 refl) $ forget ! 1 refl $ forget ! 3 refl $ move ! (3 ∷ 4 ∷ []) $ free1 ! $ move ! (1 ∷ 2 ∷ []) $ free1 ! $ free0 ! $
            split ! $ keep ! (0 ∷ []) $ by ! (exits m (subst (λ (vs : List Val). shadow (Q.own m vs)) (Q.tells m _ is) is) e))))))))

    pub hands_on : (g : Callee) (𝓣 : Tables 𝓤 H) → Triple 𝓤 (𝓣.C g) Same → Meets 𝓛 signature (WpFn 𝓤 H 𝓣.C 𝓣.Λ (wrapper g)) (closing 𝓛 ended (clauses 𝓤))
    hands_on g 𝓣 known = walk_Meets 𝓛 ended stayed (Goes-dropped 𝓛 1 (shr_slice_of (0 ∷ []) tt (slot S)) yes (λ κs x f. refl), tt) (clauses 𝓤)
        (WpFn 𝓤 H 𝓣.C 𝓣.Λ (wrapper g)) (WpFn-mono 𝓤 H 𝓛.laws 𝓣 (wrapper g))
        (walked 𝓛 ended stayed (clauses 𝓤) (WpFn 𝓤 H 𝓣.C 𝓣.Λ (wrapper g)) (λ κs. (shr_slice_vals, tt)) (λ κs. (shr_slice_Tells (named 0) κs.0 (row S), tt))
        (λ κs qs bounds a _ are. via 𝓤 _ (fst∗ 𝓤 _ (emp 𝓤)) (walk κs.0 qs.0 a.0 are.0.0.1 g 𝓣.C 𝓣.Λ (fm_of 𝓤 H 𝓛.laws 𝓣) known)))
