pub mod FrameViews
