pub mod TwiceLaws
