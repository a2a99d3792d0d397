-- What a window is made of.
use Rattle.window.specs.declared.Window.{Window}
use Rattle.window.specs.declared.frame.Frame.{Frame}

-- the surface that it stands on
abbrev pub below_of : {S : Type 0} → Window S → S
below_of w = w.below

-- the corner and the extent that it was asked for
abbrev pub frame_of : {S : Type 0} → Window S → Frame
frame_of w = w.frame
