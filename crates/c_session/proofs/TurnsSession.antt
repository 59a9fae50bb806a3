-- The first program with a limit of one turn: `turns`, while the state is Running, and then the stop.
use Rattle.std.proofs.Common.{◌≡◌, refl, List, [], ◌∷◌, Option, Some, inl, inr, arith, lit≤}
use Rattle.std.specs.Prelude.{Box, codes}
use Rattle.std.specs.declared.alloc.Global.{Global}
use Rattle.runs.specs.Runs.{Comes, until}
use Rattle.runs.proofs.Once.{until_once, Same}
use Rattle.c_session.specs.declared.command.Command.{Command}
use Rattle.c_session.specs.declared.command.Command.TheVariants as command
use Rattle.c_session.specs.declared.command.Spot.TheVariants as spot
use Rattle.c_source.specs.Control.{State}
use Rattle.c_source.specs.Source.{step}
use Rattle.c_reading.specs.Readings.{Unread, BadSyntax}
use Rattle.c_session.specs.Commands.{ByContinue, OneSide, TwoSides, One, SecondAlone}
use Rattle.c_session.specs.Allowed.{Lines, Allowed, IsLate, one, first_comes, stops_by}
use Rattle.c_session.proofs.Computed.{computing}
use Rattle.c_session.proofs.AssignmentSession.{program}
use Rattle.c_session.proofs.Only.{start, stop}

module _ (b : Box (Unit {0}) Global) where
  meets : until State (step (program b)) (stops_by (0 ∷ []) ByContinue) 1 (start b) ≡ Comes 1 (stop b)
  unfolding computing
  meets = refl

  late : IsLate (program b) (stops_by (0 ∷ []) ByContinue) 1 (start b)
  late c e m is =
      let same : Same State c 1 e (stop b) = until_once (step (program b)) (stops_by (0 ∷ []) ByContinue) m.0 1 (start b) c 1 e (stop b) m.1 meets in
      omega (arith, same.count)

  abbrev replies : Lines
  replies =
      codes "break a.c:1.23" ∷ codes "limit 1" ∷ codes "turns" ∷ codes "refused running" ∷ codes "refused running"
      ∷ codes "limit 10000000" ∷ codes "stop a.c:1.23 main" ∷ []

  abbrev commands : List (Option Command)
  commands =
      Some (command.Break (spot.Func (codes "main"))) ∷ Some (command.Turns 1) ∷ Some command.Continue ∷ Some (command.Print (codes "x"))
      ∷ Some command.Step ∷ Some (command.Turns 10000000) ∷ Some command.Continue ∷ []

  -- with one side
  one_side : Allowed (program b) OneSide [] commands replies []
  unfolding computing
  one_side = inr (
    Unread BadSyntax,
    tt,
    inr (inr (
      _,
      _,
      _,
      refl,
      (refl, refl),
      inr (
        Unread BadSyntax,
        tt,
        inr (inr (
          _,
          _,
          _,
          refl,
          (refl, refl),
          inr (
            Unread BadSyntax,
            tt,
            inr (inr (
              _,
              _,
              _,
              refl,
              inr (inl (One (start b), [], one (start b) (start b) [] (late, 0, (0, refl), lit≤ tt) (inl refl), ([], refl), refl, refl)),
              inr (
                Unread BadSyntax,
                tt,
                inr (inr (
                  _,
                  _,
                  _,
                  refl,
                  (refl, refl),
                  inr (
                    Unread BadSyntax,
                    tt,
                    inr (inr (
                      _,
                      _,
                      _,
                      refl,
                      (refl, refl),
                      inr (
                        Unread BadSyntax,
                        tt,
                        inr (inr (
                          _,
                          _,
                          _,
                          refl,
                          (refl, refl),
                          inr (
                            Unread BadSyntax,
                            tt,
                            inr (inr (
                              _,
                              _,
                              _,
                              refl,
                              (inl (stop b, tt, (1, (1, meets)), refl, refl)),
                              (refl, refl),
                            )),
                          ),
                        )),
                      ),
                    )),
                  ),
                )),
              ),
            )),
          ),
        )),
      ),
    )),
  )

  -- with two sides, of which the first has come to the stop at `turns` and the second has not
  two_sides : Allowed (program b) TwoSides [] commands replies []
  unfolding computing
  two_sides = inr (
    Unread BadSyntax,
    tt,
    inr (inr (
      _,
      _,
      _,
      refl,
      (refl, refl),
      inr (
        Unread BadSyntax,
        tt,
        inr (inr (
          _,
          _,
          _,
          refl,
          (refl, refl),
          inr (
            Unread BadSyntax,
            tt,
            inr (inr (
              _,
              _,
              _,
              refl,
              (inr (inl (SecondAlone (start b), [], first_comes (start b) (start b) (start b) [] (stop b, (1, (1, meets)), tt, refl) (late, 0, (0, refl), lit≤ tt), ([], refl), refl, refl))),
              inr (
                Unread BadSyntax,
                tt,
                inr (inr (
                  _,
                  _,
                  _,
                  refl,
                  (refl, refl),
                  inr (
                    Unread BadSyntax,
                    tt,
                    inr (inr (
                      _,
                      _,
                      _,
                      refl,
                      (refl, refl),
                      inr (
                        Unread BadSyntax,
                        tt,
                        inr (inr (
                          _,
                          _,
                          _,
                          refl,
                          (refl, refl),
                          inr (
                            Unread BadSyntax,
                            tt,
                            inr (inr (
                              _,
                              _,
                              _,
                              refl,
                              (inl (stop b, tt, (1, (1, meets)), refl, refl)),
                              (refl, refl),
                            )),
                          ),
                        )),
                      ),
                    )),
                  ),
                )),
              ),
            )),
          ),
        )),
      ),
    )),
  )
