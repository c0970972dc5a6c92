-- The voice of a frame: the stage of the weighting; pitch and shaping are in `frame_pitch`.
pub mod Weighting
pub mod inner
