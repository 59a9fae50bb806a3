-- The sides of a session at its start, and behind commands that don't resume.
use Rattle.std.proofs.Common.{◌≡◌, ◌∙◌, refl, sym, ap, subst, inl, [], map, Option, Some, None}
use Rattle.ps_store.specs.declared.object.Part.TheVariants.{Command}
use Rattle.ps_store.specs.StoreState.{StoreState}
use Rattle.table_points.specs.Rows.{row_in}
use Rattle.claims.specs.Side.{SideState, State, Fresh, Stopped, Running, Ended, first_side}
use Rattle.side_meaning.specs.Standing.{Debugged, events_in, IsPlanted, StandsFor}
use Rattle.side_meaning.specs.Stepping.{IsSettled, IsReady}
use Rattle.side_meaning.specs.Asking.{IsAsked}
use Rattle.side_meaning.specs.Sessions.{OnSecond, StandsIn, SidesBegin, IsStill, SidesSettle, SecondAsked, AsksStand, LimitsStand}
use Rattle.side_meaning.proofs.Beginning.{settled_stands}
use Rattle.side_meaning.proofs.Asking.{asks}

pub begin : SidesBegin
begin b input d table m g =
    let a : SideState = first_side b input table m in
    let planted : IsPlanted d.table d.row d.host a = record { words = sym (ap (map (row_in d.table)) g.words); machine = sym g.machine } in
    record {
      stands = record {
        table = record { same = ap (λ (t : StoreState). record t { part = Command }) (sym g.table_is); command = g.nothing };
        frame = sym g.frame;
        alike = record { breaks = sym (ap (map (row_in d.table)) g.breaks); stands_at = sym g.stands_at; kept = sym (ap (events_in d.table) g.kept); words = inl planted };
        ended = g.ended;
        unended = λ e. cc;
        again = λ stay. inl g.words;
      };
      words = refl;
    }

-- ---- where the session stands

pub no_words : (state : State) (d : Debugged) (a : SideState) → IsStill state → StandsIn state d a → a.step_words ≡ []
no_words Fresh d a still h = h.words
no_words Stopped d a still h = h.words
no_words (Running began) d a still h = absurd still
no_words Ended d a still h = absurd still

pub in_state : (state : State) (d : Debugged) (a : SideState) → IsStill state → StandsFor d a → a.step_words ≡ [] → StandsIn state d a
in_state Fresh d a still h none = record { stands = h; words = none }
in_state Stopped d a still h none = record { stands = h; words = none }
in_state (Running began) d a still h none = absurd still
in_state Ended d a still h none = absurd still

settled_in : (state : State) (d d' : Debugged) (a : SideState) → IsStill state → StandsIn state d a → IsSettled d d' → StandsIn state d' a × IsReady d' a
settled_in state d d' a still h g =
    let none : a.step_words ≡ [] = no_words state d a still h in
    let r : IsReady d' a = settled_stands d d' a h.stands none g in
    (in_state state d' a still r.stands none, r)

second_settled : (state : State) (o o' : Option Debugged) (oa : Option SideState) → IsStill state → OnSecond (StandsIn state) o oa → OnSecond IsSettled o o' → OnSecond (StandsIn state) o' oa × OnSecond IsReady o' oa
second_settled state None None None still h g = (tt, tt)
second_settled state (Some d) (Some d') (Some a) still h g = settled_in state d d' a still h g
second_settled state None (Some d') oa still h g = absurd g
second_settled state (Some d) None oa still h g = absurd g
second_settled state None None (Some a) still h g = absurd h
second_settled state (Some d) (Some d') None still h g = absurd h

pub settle : SidesSettle
settle s s' st still h g k =
    let first = settled_in st.state s.first s'.first st.first still h.first g in
    let second = second_settled st.state s.second s'.second st.second still h.second k in
    (record { first = first.0; second = second.0 }, (first.1, second.1))

-- ---- behind a command

asked_in : (state : State) (d d' : Debugged) (a a' : SideState) → IsStill state → StandsIn state d a → IsReady d a → IsAsked d d' a a' → StandsIn state d' a' × IsReady d' a'
asked_in state d d' a a' still h ready g =
    let none : a.step_words ≡ [] = no_words state d a still h in
    let r : IsReady d' a' = asks d d' a a' none ready g in
    (in_state state d' a' still r.stands (ap (λ (x : SideState). x.step_words) g.side ∙ none), r)

second_asked : (state : State) (o o' : Option Debugged) (oa oa' : Option SideState) → IsStill state → OnSecond (StandsIn state) o oa → OnSecond IsReady o oa → SecondAsked o o' oa oa' → OnSecond (StandsIn state) o' oa' × OnSecond IsReady o' oa'
second_asked state None None None None still h r g = (tt, tt)
second_asked state (Some d) (Some d') (Some a) (Some a') still h r g = asked_in state d d' a a' still h r g
second_asked state None None None (Some a') still h r g = absurd g
second_asked state None None (Some a) oa' still h r g = absurd g
second_asked state None (Some d') oa oa' still h r g = absurd g
second_asked state (Some d) None oa oa' still h r g = absurd g
second_asked state (Some d) (Some d') None oa' still h r g = absurd g
second_asked state (Some d) (Some d') (Some a) None still h r g = absurd g

pub asks_stand : AsksStand
asks_stand s s' st st' still h r same g k =
    let first = asked_in st.state s.first s'.first st.first st'.first still h.first r.0 g in
    let second = second_asked st.state s.second s'.second st.second st'.second still h.second r.1 k in (
      record {
        first = subst (λ (z : State). StandsIn z s'.first st'.first) (sym same) first.0;
        second = subst (λ (z : State). OnSecond (StandsIn z) s'.second st'.second) (sym same) second.0;
      },
      (first.1, second.1),
    )

pub limit : LimitsStand
limit s st n h = record { first = h.first; second = h.second }
