mod Standing
mod Reading
mod Suiting
mod Turning
mod Adding
