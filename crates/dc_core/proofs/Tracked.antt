-- One direction, and that a run goes on, give both directions.
use Rattle.std.proofs.Common.{◌≡◌, ℕ, List, [], refl, sym, ◌∙◌, append-nil}
use Rattle.dc_core.specs.Event.{End, Returned, Blocked, Undefined, NoBody, ObjectLimit, DepthLimit, ChoicesEnded, Cut}
use Rattle.dc_core.specs.Outcome.{Outcome, IsSame, IsPrefix, Covers, Agrees, IsRun, Tracks, IsExact}

pub prefix_same : (xs ys : List (List ℕ)) → xs ≡ ys → IsPrefix xs ys
prefix_same xs ys e = ([], sym e ∙ sym (append-nil xs))

pub same_refl : (a : Outcome) → IsSame a a
same_refl a = record { names = refl; end = refl; used = refl; memory = λ result e. refl }

pub same_sym : (a b : Outcome) → IsSame a b → IsSame b a
same_sym a b s =
    record { names = sym s.names; end = sym s.end; used = sym s.used; memory = λ result e. sym (s.memory result (s.end ∙ e)) }

pub same_trans : (a b c : Outcome) → IsSame a b → IsSame b c → IsSame a c
same_trans a b c s t =
    record {
      names = s.names ∙ t.names;
      end = s.end ∙ t.end;
      used = s.used ∙ t.used;
      memory = λ result e. s.memory result e ∙ t.memory result (sym s.end ∙ e);
    }

pub covers_same : (e : End) (a b : Outcome) → IsSame a b → Covers e a b
covers_same Cut a b s = prefix_same a.names b.names s.names
covers_same (Returned result) a b s = s
covers_same Blocked a b s = s
covers_same (Undefined function) a b s = s
covers_same (NoBody function) a b s = s
covers_same ObjectLimit a b s = s
covers_same DepthLimit a b s = s
covers_same ChoicesEnded a b s = s

covers_agreed : (e : End) (a b : Outcome) → Agrees e a b → Covers e a b
covers_agreed Cut a b s = prefix_same a.names b.names s.0
covers_agreed (Returned result) a b s = s
covers_agreed Blocked a b s = s
covers_agreed (Undefined function) a b s = s
covers_agreed (NoBody function) a b s = s
covers_agreed ObjectLimit a b s = s
covers_agreed DepthLimit a b s = s
covers_agreed ChoicesEnded a b s = s

-- where the source agrees with a later state of the target, it has the names of an earlier one that was cut
cut_back : (d : End) (b c a : Outcome) → IsPrefix b.names c.names → Agrees d a c → IsPrefix b.names a.names
cut_back Cut b c a s t = (s.0, t.0 ∙ s.1)
cut_back (Returned result) b c a s t = (s.0, t.names ∙ s.1)
cut_back Blocked b c a s t = (s.0, t.names ∙ s.1)
cut_back (Undefined function) b c a s t = (s.0, t.names ∙ s.1)
cut_back (NoBody function) b c a s t = (s.0, t.names ∙ s.1)
cut_back ObjectLimit b c a s t = (s.0, t.names ∙ s.1)
cut_back DepthLimit b c a s t = (s.0, t.names ∙ s.1)
cut_back ChoicesEnded b c a s t = (s.0, t.names ∙ s.1)

-- and it ended as an earlier one that has ended
ended_back : (d : End) (b c a : Outcome) → (b.end ≡ Cut → ⊥) → IsSame b c → Agrees d a c → IsSame b a
ended_back Cut b c a n s t = absurd (n (s.end ∙ t.1))
ended_back (Returned result) b c a n s t = same_trans b c a s (same_sym a c t)
ended_back Blocked b c a n s t = same_trans b c a s (same_sym a c t)
ended_back (Undefined function) b c a n s t = same_trans b c a s (same_sym a c t)
ended_back (NoBody function) b c a n s t = same_trans b c a s (same_sym a c t)
ended_back ObjectLimit b c a n s t = same_trans b c a s (same_sym a c t)
ended_back DepthLimit b c a n s t = same_trans b c a s (same_sym a c t)
ended_back ChoicesEnded b c a n s t = same_trans b c a s (same_sym a c t)

other : (e : End) (b : Outcome) → e ≡ b.end → (e ≡ Cut → ⊥) → b.end ≡ Cut → ⊥
other e b p n q = n (p ∙ q)

back_from : (e d : End) (b c a : Outcome) → e ≡ b.end → Covers e b c → Agrees d a c → Covers e b a
back_from Cut d b c a p s t = cut_back d b c a s t
back_from (Returned result) d b c a p s t = ended_back d b c a (other (Returned result) b p (λ e. cc)) s t
back_from Blocked d b c a p s t = ended_back d b c a (other Blocked b p (λ e. cc)) s t
back_from (Undefined function) d b c a p s t = ended_back d b c a (other (Undefined function) b p (λ e. cc)) s t
back_from (NoBody function) d b c a p s t = ended_back d b c a (other (NoBody function) b p (λ e. cc)) s t
back_from ObjectLimit d b c a p s t = ended_back d b c a (other ObjectLimit b p (λ e. cc)) s t
back_from DepthLimit d b c a p s t = ended_back d b c a (other DepthLimit b p (λ e. cc)) s t
back_from ChoicesEnded d b c a p s t = ended_back d b c a (other ChoicesEnded b p (λ e. cc)) s t

pub exact_runs : (source target : ℕ → List ℕ → Outcome) → IsRun target → Tracks source target → IsExact source target
exact_runs source target goes tracks =
    record {
      forth = λ n choices.
          let t = tracks.follows n choices in
          (t.0, covers_agreed (source n choices).end (source n choices) (target t.0 choices) t.1);
      back = λ m choices.
          let t = tracks.far m choices in
          (t.0, back_from (target m choices).end (source t.0 choices).end (target m choices) (target t.1 choices) (source t.0 choices) refl (goes.goes_on m t.1 choices t.2) t.3);
    }
